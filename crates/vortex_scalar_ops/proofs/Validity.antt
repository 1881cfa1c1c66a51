-- Validity of items, one after another.
use Rattle.std.proofs.Math.Bool.{and-true}
use Rattle.std.proofs.Common.{◌≡◌, ◌<◌, ◌+◌, ◌&&◌, refl, sym, ap, ◌∙◌, ℕ, List, [], ◌∷◌, length, drop, get_or, Option, option_copied, Bor, arith}
use Rattle.std.proofs.lemmas.List.{drop_more}
use Rattle.vortex_model.specs.LogicalType.{LogicalType, stored}
use Rattle.vortex_model.specs.Content.{Raw, raw_tuple, Raws, no_raws, raw_first}
use Rattle.vortex_model.specs.Valid.{has, valid, entries_have, fields_have}
use Rattle.vortex_dtype_core.specs.View.{type_of, fields_of}
use Rattle.vortex_dtype_core.specs.declared.struct_fields.StructField.{StructField}
use Rattle.vortex_dtype_core.proofs.Views.{field_of-parts}
use Rattle.vortex_scalar_value.specs.View.{raw_in, raw_at, raws_in}
use Rattle.vortex_scalar_value.specs.declared.scalar_value.ScalarValue.{ScalarValue}
use Rattle.vortex_scalar_value.proofs.Sizes.{raw_at-copied}

-- the first entry, and the rest
pub entries_first : (k v : LogicalType) (r : Raw) (rs : Raws) → entries_have k v (raw_first r rs) ≡ entries_have k v (raw_first r no_raws) && entries_have k v rs
entries_first k v (raw_tuple (raw_first a (raw_first b no_raws))) rs = ap (λ c. c && entries_have k v rs) (sym (and-true (has (stored k) a && has (stored v) b)))
entries_first k v r rs = refl

pub entry_next : (k v : LogicalType) (vs : List (Option ScalarValue)) (i : ℕ) (w : Option ScalarValue) (o : Option (Bor ScalarValue)) → i < length vs → w ≡ get_or vs i w → option_copied o ≡ w →
    entries_have k v (raws_in (drop i vs)) ≡ entries_have k v (raw_first (raw_at o) no_raws) && entries_have k v (raws_in (drop (i + 1) vs))
entry_next k v vs i w o h e c =
    let split : drop i vs ≡ w ∷ drop (i + 1) vs = drop_more vs i w h ∙ ap (λ u. u ∷ drop (i + 1) vs) (sym e) in
    let at : raw_in w ≡ raw_at o = sym (raw_at-copied o ∙ ap (λ u. raw_in u) c) in
    ap (λ us. entries_have k v (raws_in us)) split ∙ entries_first k v (raw_in w) (raws_in (drop (i + 1) vs))
    ∙ ap (λ r. entries_have k v (raw_first r no_raws) && entries_have k v (raws_in (drop (i + 1) vs))) at

-- an entry is a pair of a key and a value
pub pair_has : (k v : LogicalType) (ps : List (Option ScalarValue)) (a b : Option ScalarValue) → length ps ≡ 2 → a ≡ get_or ps 0 a → b ≡ get_or ps 1 b →
    entries_have k v (raw_first (raw_tuple (raws_in ps)) no_raws) ≡ valid k (raw_in a) && valid v (raw_in b)
pair_has k v [] a b h d e = absurd (omega (arith, h))
pair_has k v (x ∷ []) a b h d e = absurd (omega (arith, h))
pair_has k v (x ∷ y ∷ z ∷ ps) a b h d e = absurd (omega (arith, h))
pair_has k v (x ∷ y ∷ []) a b h d e =
    and-true _ ∙ ap (λ u. has (stored k) (raw_in u) && has (stored v) (raw_in y)) (sym d) ∙ ap (λ u. has (stored k) (raw_in a) && has (stored v) (raw_in u)) (sym e)

-- the first of the fields that are left
pub field_next : (fs : List StructField) (vs : List (Option ScalarValue)) (i : ℕ) (f : StructField) (w : Option ScalarValue) (o : Option (Bor ScalarValue)) → i < length fs → i < length vs → f ≡ get_or fs i f → w ≡ get_or vs i w → option_copied o ≡ w →
    fields_have (fields_of (drop i fs)) (raws_in (drop i vs)) ≡ valid (type_of f.dtype) (raw_at o) && fields_have (fields_of (drop (i + 1) fs)) (raws_in (drop (i + 1) vs))
field_next fs vs i f w o hf hv ef ev c =
    let rest = fields_have (fields_of (drop (i + 1) fs)) (raws_in (drop (i + 1) vs)) in
    let split_fields : drop i fs ≡ f ∷ drop (i + 1) fs = drop_more fs i f hf ∙ ap (λ u. u ∷ drop (i + 1) fs) (sym ef) in
    let split_values : drop i vs ≡ w ∷ drop (i + 1) vs = drop_more vs i w hv ∙ ap (λ u. u ∷ drop (i + 1) vs) (sym ev) in
    let at : raw_in w ≡ raw_at o = sym (raw_at-copied o ∙ ap (λ u. raw_in u) c) in
    ap (λ gs. fields_have (fields_of gs) (raws_in (drop i vs))) split_fields
    ∙ ap (λ us. fields_have (fields_of (f ∷ drop (i + 1) fs)) (raws_in us)) split_values
    ∙ ap (λ p. has (stored p.1) (raw_in w) && rest) (field_of-parts f)
    ∙ ap (λ r. has (stored (type_of f.dtype)) r && rest) at
