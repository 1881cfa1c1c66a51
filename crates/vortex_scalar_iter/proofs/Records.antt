-- Fields of structs, one after another.
use Rattle.std.proofs.Common.{◌≡◌, ◌<◌, ◌&&◌, ℕ, zero, suc, List, [], ◌∷◌, length, map, get_or, arith, true, Option, Some, None, option_map, option_and_then, refl, sym, ap, ◌∙◌}
use Rattle.std.proofs.lemmas.Bool.{and_parts}
use Rattle.vortex_model.specs.LogicalType.{LogicalType, Nullability, nullable, is_nullable, struct, stored, nullability_of, Fields, no_fields, field}
use Rattle.vortex_model.specs.Content.{Raw, raw_null, raw_tuple, Raws, no_raws, raw_first}
use Rattle.vortex_model.specs.Path.{position_named, field_at}
use Rattle.vortex_model.specs.Valid.{valid, has, fields_have}
use Rattle.vortex_dtype_fields.specs.Records.{type_named, projected}
use Rattle.vortex_dtype_core.specs.Parts.{fields_in_type}
use Rattle.vortex_dtype_core.specs.View.{type_of, fields_of}
use Rattle.vortex_dtype_core.specs.declared.struct_fields.StructField.{StructField}
use Rattle.vortex_dtype_core.proofs.Views as types
use Rattle.vortex_scalar_value.specs.View.{raws_in, raw_in}
use Rattle.vortex_scalar_value.specs.declared.scalar_value.ScalarValue.{ScalarValue}
use Rattle.vortex_scalar_value.proofs.Views as values
use Rattle.vortex_scalar_nested.specs.Places.{item_at, both}
use Rattle.vortex_scalar_nested.proofs.Records.{field_valid}
use Rattle.vortex_scalar_iter.specs.Records.{each_field, value_named, values_named, raw_projected, record_projected, holds_fields, fields_under, fields_of_record}

-- ---- in order

pub first_field : (f : StructField) (fs : List StructField) (rs : Raws) (r : Raw) → each_field (fields_of (f ∷ fs)) (raw_first r rs) ≡ (type_of f.dtype, r) ∷ each_field (fields_of fs) rs
first_field f fs rs r = ap (λ p. (p.1, r) ∷ each_field (fields_of fs) rs) (types.field_of-parts f)

pub first_valid : (f : StructField) (fs : List StructField) (rs : Raws) (r : Raw) → fields_have (fields_of (f ∷ fs)) (raw_first r rs) ≡ true → (valid (type_of f.dtype) r ≡ true) × (fields_have (fields_of fs) rs ≡ true)
first_valid f fs rs r h = and_parts (has (stored (type_of f.dtype)) r) (fields_have (fields_of fs) rs) (sym (ap (λ p. has (stored p.1) r && fields_have (fields_of fs) rs) (types.field_of-parts f)) ∙ h)

pub eq_length : (fs : List StructField) (vs : List (Option ScalarValue)) → fields_have (fields_of fs) (raws_in vs) ≡ true → length (each_field (fields_of fs) (raws_in vs)) ≡ length fs
eq_length [] [] h = refl
eq_length [] (v ∷ vs) h = absurd (cc (h))
eq_length (f ∷ fs) [] h = absurd (cc (h))
eq_length (f ∷ fs) (v ∷ vs) h = ap suc (eq_length fs vs (first_valid f fs (raws_in vs) (raw_in v) h).1)

pub ruleset first_of = (values.one_level, first_field, first_valid)

pub ruleset counted = (eq_length)

-- ---- by name

item_there : (fs : Fields) (rs : Raws) (i : ℕ) → fields_have fs rs ≡ true → item_at rs i ≡ None → field_at fs i ≡ None
item_there no_fields rs i h p = refl
item_there (field x k fs) no_raws i h p = absurd (cc (h))
item_there (field x k fs) (raw_first r rs) zero h p = absurd (cc (p))
item_there (field x k fs) (raw_first r rs) (suc i) h p = item_there fs rs i (and_parts (has (stored k) r) (fields_have fs rs) h).1 p

missing_at : (fs : Fields) (rs : Raws) (o : Option ℕ) → fields_have fs rs ≡ true → option_and_then (λ i. item_at rs i) o ≡ None → option_and_then (field_at fs) o ≡ None
missing_at fs rs None h p = refl
missing_at fs rs (Some i) h p = item_there fs rs i h p

missed : (fs : Fields) (rs : Raws) (xs : List (List ℕ)) (i : ℕ) (x : List ℕ) → fields_have fs rs ≡ true → i < length xs → x ≡ get_or xs i x → value_named fs rs x ≡ None → projected fs xs ≡ None
missed fs rs [] i x h l g v = absurd (omega arith)
missed fs rs (y ∷ ys) zero x h l g v =
    ap (λ o. option_and_then (λ k. option_map (field y k) (projected fs ys)) o) (ap (λ z. type_named fs z) (sym g) ∙ missing_at fs rs (position_named fs x) h v)
missed fs rs (y ∷ ys) (suc i) x h l g v =
    ap (λ o. option_and_then (λ k. option_map (field y k) o) (type_named fs y)) (missed fs rs ys i x h (omega arith) g v) ∙ nothing_then (type_named fs y) where
      nothing_then : (o : Option LogicalType) → option_and_then (λ k. option_map (field y k) None) o ≡ None
      nothing_then None = refl
      nothing_then (Some k) = refl

pub missed_name : (fs : Fields) (rs : Raws) (xs : List (List ℕ)) (i : ℕ) (x : List ℕ) → fields_have fs rs ≡ true → i < length xs → x ≡ get_or xs i x → None ≡ value_named fs rs x → projected fs xs ≡ None
missed_name fs rs xs i x h l g v = missed fs rs xs i x h l g (sym v)

pub all_named : (fs : Fields) (rs : Raws) (vs : List (Option ScalarValue)) (xs : List (List ℕ)) → map (λ v. Some (raw_in v)) vs ≡ map (λ x. value_named fs rs x) xs → Some (raws_in vs) ≡ values_named fs rs xs
all_named fs rs [] [] h = refl
all_named fs rs [] (x ∷ xs) h = absurd (cc (h))
all_named fs rs (v ∷ vs) [] h = absurd (cc (h))
all_named fs rs (v ∷ vs) (x ∷ xs) h =
    let one : Some (raw_in v) ≡ value_named fs rs x = cc (h) in
    let more : map (λ v. Some (raw_in v)) vs ≡ map (λ x. value_named fs rs x) xs = cc (h) in
    ap (λ o. option_map (raw_first (raw_in v)) o) (all_named fs rs vs xs more) ∙ ap (λ o. option_and_then (λ r. option_map (raw_first r) (values_named fs rs xs)) o) one

pub ruleset named = (values.one_level)

-- ---- projected structs are valid

placed_valid : (fs : Fields) (rs : Raws) (o : Option ℕ) (k : LogicalType) (r : Raw) → fields_have fs rs ≡ true → Some k ≡ option_and_then (field_at fs) o → Some r ≡ option_and_then (λ i. item_at rs i) o → valid k r ≡ true
placed_valid fs rs None k r h e f = absurd (cc (e))
placed_valid fs rs (Some i) k r h e f = field_valid (struct fs nullable) fs rs i k r refl h e f

-- one more field, with its type and value and those of the fields after it
one_more : (x : List ℕ) (a : Option LogicalType) (b : Option Raw) (c : Option Fields) (d : Option Raws) (gs : Fields) (qs : Raws) →
    ((k : LogicalType) (r : Raw) → Some k ≡ a → Some r ≡ b → valid k r ≡ true) → ((hs : Fields) (ps : Raws) → Some hs ≡ c → Some ps ≡ d → fields_have hs ps ≡ true) →
    Some gs ≡ option_and_then (λ k. option_map (field x k) c) a → Some qs ≡ option_and_then (λ r. option_map (raw_first r) d) b → fields_have gs qs ≡ true
one_more x (Some k) (Some r) (Some hs) (Some ps) gs qs one more e f =
    let fields : gs ≡ field x k hs = cc (e) in
    let raws : qs ≡ raw_first r ps = cc (f) in
    (λ i. fields_have (fields i) (raws i)) ∙ (λ i. one k r refl refl i && more hs ps refl refl i)
one_more x None b c d gs qs one more e f = absurd (cc (e))
one_more x (Some k) b None d gs qs one more e f = absurd (cc (e))
one_more x (Some k) None (Some hs) d gs qs one more e f = absurd (cc (f))
one_more x (Some k) (Some r) (Some hs) None gs qs one more e f = absurd (cc (f))

chosen_valid : (fs : Fields) (rs : Raws) (xs : List (List ℕ)) (gs : Fields) (qs : Raws) → fields_have fs rs ≡ true → Some gs ≡ projected fs xs → Some qs ≡ values_named fs rs xs → fields_have gs qs ≡ true
chosen_valid fs rs [] gs qs h e f =
    let fields : gs ≡ no_fields = cc (e) in
    let raws : qs ≡ no_raws = cc (f) in
    (λ i. fields_have (fields i) (raws i))
chosen_valid fs rs (x ∷ xs) gs qs h e f =
    one_more x (type_named fs x) (value_named fs rs x) (projected fs xs) (values_named fs rs xs) gs qs (λ k r p q. placed_valid fs rs (position_named fs x) k r h p q) (λ hs ps p q. chosen_valid fs rs xs hs ps h p q) e f

made_valid : (n : Nullability) (c : Option Fields) (d : Option Raws) (k : LogicalType) (s : Raw) → ((hs : Fields) (ps : Raws) → Some hs ≡ c → Some ps ≡ d → fields_have hs ps ≡ true) →
    Some k ≡ option_map (λ gs. struct gs n) c → Some s ≡ option_map raw_tuple d → valid k s ≡ true
made_valid n (Some hs) (Some ps) k s all e f =
    let kind : k ≡ struct hs n = cc (e) in
    let raw : s ≡ raw_tuple ps = cc (f) in
    (λ i. valid (kind i) (raw i)) ∙ all hs ps refl refl
made_valid n None d k s all e f = absurd (cc (e))
made_valid n (Some hs) None k s all e f = absurd (cc (f))

null_valid : (n : Nullability) (c : Option Fields) (k : LogicalType) (s : Raw) → is_nullable n ≡ true → Some k ≡ option_map (λ gs. struct gs n) c → Some s ≡ Some raw_null → valid k s ≡ true
null_valid n (Some hs) k s h e f =
    let kind : k ≡ struct hs n = cc (e) in
    let raw : s ≡ raw_null = cc (f) in
    (λ i. valid (kind i) (raw i)) ∙ h
null_valid n None k s h e f = absurd (cc (e))

pub projected_valid : (k d : LogicalType) (fs : Fields) (r s : Raw) (xs : List (List ℕ)) → fields_in_type k ≡ Some fs → valid k r ≡ true → Some d ≡ option_map (λ gs. struct gs (nullability_of k)) (projected fs xs) → Some s ≡ raw_projected fs r xs → valid d s ≡ true
projected_valid (struct gs n) d fs (raw_tuple rs) s xs h v e f =
    let has_all : fields_have fs rs ≡ true = ap (λ z. fields_have z rs) (sym (cc (h))) ∙ v in
    made_valid n (projected fs xs) (values_named fs rs xs) d s (λ hs ps p q. chosen_valid fs rs xs hs ps has_all p q) e f
projected_valid (struct gs n) d fs raw_null s xs h v e f = null_valid n (projected fs xs) d s v e f
projected_valid (struct gs n) d fs r s xs h v e f = absurd (cc (v))
projected_valid k d fs r s xs h v e f = absurd (cc (h))

pub fields_held : (k : LogicalType) (fs : Fields) (r : Raw) → fields_in_type k ≡ Some fs → valid k r ≡ true → holds_fields fs r ≡ true
fields_held (struct gs n) fs (raw_tuple rs) h v = ap (λ z. fields_have z rs) (sym (cc (h))) ∙ v
fields_held (struct gs n) fs r h v = refl
fields_held k fs r h v = absurd (cc (h))

pub record_made : (k d : LogicalType) (fs : Fields) (r s : Raw) (xs : List (List ℕ)) → fields_in_type k ≡ Some fs → Some d ≡ option_map (λ gs. struct gs (nullability_of k)) (projected fs xs) → Some s ≡ raw_projected fs r xs → Some (d, s) ≡ record_projected (k, r) xs
record_made k d fs r s xs h e f =
    (λ i. both (e i) (f i)) ∙ sym (ap (λ o. option_and_then (λ gs. both (option_map (λ hs. struct hs (nullability_of k)) (projected gs xs)) (raw_projected gs r xs)) o) h)

pub no_record : (k : LogicalType) (fs : Fields) (r : Raw) (xs : List (List ℕ)) → fields_in_type k ≡ Some fs → projected fs xs ≡ None → record_projected (k, r) xs ≡ None
no_record k fs r xs h e =
    ap (λ o. option_and_then (λ gs. both (option_map (λ hs. struct hs (nullability_of k)) (projected gs xs)) (raw_projected gs r xs)) o) h
    ∙ ap (λ o. both (option_map (λ hs. struct hs (nullability_of k)) o) (raw_projected fs r xs)) e

pub ruleset projections = (projected_valid, fields_held, record_made, no_record)

-- ---- the fields of a struct

pub record_fields : (k : LogicalType) (fs : Fields) (r : Raw) (rs : Raws) → fields_in_type k ≡ Some fs → raw_tuple rs ≡ r → Some (each_field fs rs) ≡ fields_of_record (k, r)
record_fields k fs r rs h e = sym (ap (λ o. option_and_then (λ gs. fields_under gs r) o) h ∙ ap (λ z. fields_under fs z) (sym e))

pub no_fields_of_null : (k : LogicalType) (r : Raw) → raw_null ≡ r → None ≡ fields_of_record (k, r)
no_fields_of_null k r e = none_at (fields_in_type k) ∙ ap (λ z. fields_of_record (k, z)) e where
  none_at : (o : Option Fields) → None ≡ option_and_then (λ gs. fields_under gs raw_null) o
  none_at None = refl
  none_at (Some gs) = refl

pub ruleset listed = (fields_held, record_fields, no_fields_of_null)
