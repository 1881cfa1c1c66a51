-- One step of a cast, item by item.
use Rattle.std.proofs.Math.Bool.{and-false}
use Rattle.std.specs.Cmp.Derive.{both_true}
use Rattle.std.proofs.Common.{◌≡◌, ◌≢◌, false, zero, suc, arith, ◌<◌, ◌≤◌, ◌+◌, ◌&&◌, true, refl, sym, ap, ◌∙◌, ℕ, List, [], ◌∷◌, ◌++◌, length, take, drop, get_or, map, Option, Some, None, option_copied, Bor}
use Rattle.std.proofs.lemmas.List.{take_more, drop_more, map_push, take_all}
use Rattle.std.specs.Cmp.{first_so, second_so}
use Rattle.vortex_model.specs.Content.{contents_of}
use Rattle.vortex_model.specs.LogicalType.{LogicalType, stored}
use Rattle.vortex_model.specs.Valid.{has, valid, all_have, fields_have}
use Rattle.vortex_model.specs.Convert.{converts, all_convert, fields_convert}
use Rattle.vortex_dtype_core.specs.View.{type_of, field_of, fields_of}
use Rattle.vortex_dtype_core.specs.declared.struct_fields.StructField.{StructField}
use Rattle.vortex_dtype_core.proofs.Views.{field_of-parts}
use Rattle.vortex_scalar_value.specs.View.{raw_in, raws_in, content_in, content_at}
use Rattle.vortex_scalar_value.specs.declared.scalar_value.ScalarValue.{ScalarValue}
use Rattle.vortex_dtype_core.proofs.Views as types
use Rattle.vortex_scalar_value.proofs.Views.{one_level, eq_contents}
use Rattle.vortex_scalar_ops.proofs.Views.{nulls}
use Rattle.vortex_scalar_ops.proofs.ListValues.{converts-null}

pub content_at-copied : (o : Option (Bor ScalarValue)) → content_at o ≡ content_in (option_copied o)
content_at-copied None = refl
content_at-copied (Some r) = refl

pub contents_all : (vs ws : List (Option ScalarValue)) (i : ℕ) → length ws ≤ i → map content_in vs ≡ map content_in (take i ws) → contents_of (raws_in vs) ≡ contents_of (raws_in ws)
contents_all vs ws i h m = eq_contents vs ws (m ∙ ap (λ us. map content_in us) (take_all i ws h))

pub contents_more : (vs ws : List (Option ScalarValue)) (i : ℕ) (v w : Option ScalarValue) → i < length ws → w ≡ get_or ws i w → content_in v ≡ content_in w →
    map content_in vs ≡ map content_in (take i ws) → map content_in (vs ++ v ∷ []) ≡ map content_in (take (i + 1) ws)
contents_more vs ws i v w h e g m =
    map_push content_in vs v ∙ ap (λ cs. cs ++ content_in v ∷ []) m ∙ ap (λ c. map content_in (take i ws) ++ c ∷ []) (g ∙ ap (λ u. content_in u) e)
    ∙ sym (map_push content_in (take i ws) (get_or ws i w)) ∙ ap (λ us. map content_in us) (sym (take_more ws i w h))

-- one more valid value
pub fields_have-more : (fs : List StructField) (vs : List (Option ScalarValue)) (f : StructField) (v : Option ScalarValue) →
    fields_have (fields_of fs) (raws_in vs) ≡ true → valid (type_of f.dtype) (raw_in v) ≡ true → fields_have (fields_of (fs ++ f ∷ [])) (raws_in (vs ++ v ∷ [])) ≡ true
fields_have-more [] [] f v h g = both_true (ap (λ p. has (stored p.1) (raw_in v)) (field_of-parts f) ∙ g) refl
fields_have-more [] (w ∷ vs) f v h g = absurd (cc (h))
fields_have-more (e ∷ fs) [] f v h g = absurd (cc (h))
fields_have-more (e ∷ fs) (w ∷ vs) f v h g = both_true (first_so _ _ h) (fields_have-more fs vs f v (second_so _ _ h) g)

pub all_have-more : (k : LogicalType) (vs : List (Option ScalarValue)) (v : Option ScalarValue) → all_have k (raws_in vs) ≡ true → valid k (raw_in v) ≡ true → all_have k (raws_in (vs ++ v ∷ [])) ≡ true
all_have-more k [] v h g = both_true g refl
all_have-more k (w ∷ vs) v h g = both_true (first_so _ _ h) (all_have-more k vs v (second_so _ _ h) g)

pub valid_more : (ts : List StructField) (vs : List (Option ScalarValue)) (i : ℕ) (t : StructField) (v : Option ScalarValue) → i < length ts → t ≡ get_or ts i t →
    valid (type_of t.dtype) (raw_in v) ≡ true → fields_have (fields_of (take i ts)) (raws_in vs) ≡ true → fields_have (fields_of (take (i + 1) ts)) (raws_in (vs ++ v ∷ [])) ≡ true
valid_more ts vs i t v h e g m =
    let split : take (i + 1) ts ≡ take i ts ++ t ∷ [] = take_more ts i t h ∙ ap (λ u. take i ts ++ u ∷ []) (sym e) in
    ap (λ us. fields_have (fields_of us) (raws_in (vs ++ v ∷ []))) split ∙ fields_have-more (take i ts) vs t v m g

first_converts : (s t : StructField) (ss ts : List StructField) (w : Option ScalarValue) (ws : List (Option ScalarValue)) →
    fields_convert (fields_of (s ∷ ss)) (fields_of (t ∷ ts)) (contents_of (raws_in (w ∷ ws))) ≡ converts (type_of s.dtype) (type_of t.dtype) (content_in w) && fields_convert (fields_of ss) (fields_of ts) (contents_of (raws_in ws))
first_converts s t ss ts w ws =
    ap (λ p. converts p.1 (field_of t).1 (content_in w) && fields_convert (fields_of ss) (fields_of ts) (contents_of (raws_in ws))) (field_of-parts s)
    ∙ ap (λ p. converts (type_of s.dtype) p.1 (content_in w) && fields_convert (fields_of ss) (fields_of ts) (contents_of (raws_in ws))) (field_of-parts t)

-- the first of the fields that are left, and the rest
pub fields_next : (ss ts : List StructField) (ws : List (Option ScalarValue)) (i : ℕ) (s t : StructField) (w : Option ScalarValue) →
    i < length ss → i < length ts → i < length ws → s ≡ get_or ss i s → t ≡ get_or ts i t → w ≡ get_or ws i w →
    fields_convert (fields_of (drop i ss)) (fields_of (drop i ts)) (contents_of (raws_in (drop i ws)))
    ≡ converts (type_of s.dtype) (type_of t.dtype) (content_in w) && fields_convert (fields_of (drop (i + 1) ss)) (fields_of (drop (i + 1) ts)) (contents_of (raws_in (drop (i + 1) ws)))
fields_next ss ts ws i s t w hs ht hw es et ew =
    let split_s : drop i ss ≡ s ∷ drop (i + 1) ss = drop_more ss i s hs ∙ ap (λ u. u ∷ drop (i + 1) ss) (sym es) in
    let split_t : drop i ts ≡ t ∷ drop (i + 1) ts = drop_more ts i t ht ∙ ap (λ u. u ∷ drop (i + 1) ts) (sym et) in
    let split_w : drop i ws ≡ w ∷ drop (i + 1) ws = drop_more ws i w hw ∙ ap (λ u. u ∷ drop (i + 1) ws) (sym ew) in
    ap (λ us. fields_convert (fields_of us) (fields_of (drop i ts)) (contents_of (raws_in (drop i ws)))) split_s
    ∙ ap (λ us. fields_convert (fields_of (s ∷ drop (i + 1) ss)) (fields_of us) (contents_of (raws_in (drop i ws)))) split_t
    ∙ ap (λ us. fields_convert (fields_of (s ∷ drop (i + 1) ss)) (fields_of (t ∷ drop (i + 1) ts)) (contents_of (raws_in us))) split_w
    ∙ first_converts s t (drop (i + 1) ss) (drop (i + 1) ts) w (drop (i + 1) ws)

pub items_more : (a b : LogicalType) (ws : List (Option ScalarValue)) (i : ℕ) (w : Option ScalarValue) → i < length ws → w ≡ get_or ws i w → converts a b (content_in w) ≡ true →
    all_convert a b (contents_of (raws_in (drop (i + 1) ws))) ≡ all_convert a b (contents_of (raws_in (drop i ws)))
items_more a b ws i w h e g =
    let split : drop i ws ≡ w ∷ drop (i + 1) ws = drop_more ws i w h ∙ ap (λ u. u ∷ drop (i + 1) ws) (sym e) in
    sym (ap (λ us. all_convert a b (contents_of (raws_in us))) split ∙ ap (λ c. c && all_convert a b (contents_of (raws_in (drop (i + 1) ws)))) g)

-- one invalid value makes the list invalid
pub all_have-at : (k : LogicalType) (vs : List (Option ScalarValue)) (i : ℕ) (v : Option ScalarValue) → i < length vs → v ≡ get_or vs i v → valid k (raw_in v) ≡ false → all_have k (raws_in vs) ≡ false
all_have-at k [] i v h e g = absurd (omega arith)
all_have-at k (w ∷ vs) zero v h e g = ap (λ b. b && all_have k (raws_in vs)) (ap (λ u. valid k (raw_in u)) (sym e) ∙ g)
all_have-at k (w ∷ vs) (suc i) v h e g = ap (λ b. has (stored k) (raw_in w) && b) (all_have-at k vs i v (omega arith) e g) ∙ and-false _

pub fields_have-at : (fs : List StructField) (vs : List (Option ScalarValue)) (i : ℕ) (f : StructField) (v : Option ScalarValue) → i < length fs → i < length vs → f ≡ get_or fs i f → v ≡ get_or vs i v →
    valid (type_of f.dtype) (raw_in v) ≡ false → fields_have (fields_of fs) (raws_in vs) ≡ false
fields_have-at [] vs i f v hf hv ef ev g = absurd (omega arith)
fields_have-at (e ∷ fs) [] i f v hf hv ef ev g = absurd (omega arith)
fields_have-at (e ∷ fs) (w ∷ vs) zero f v hf hv ef ev g =
    ap (λ b. b && fields_have (fields_of fs) (raws_in vs))
    (ap (λ p. has (stored p.1) (raw_in w)) (field_of-parts e) ∙ ap (λ h. valid (type_of h.dtype) (raw_in w)) (sym ef) ∙ ap (λ u. valid (type_of f.dtype) (raw_in u)) (sym ev) ∙ g)
fields_have-at (e ∷ fs) (w ∷ vs) (suc i) f v hf hv ef ev g =
    ap (λ b. has (stored (field_of e).1) (raw_in w) && b) (fields_have-at fs vs i f v (omega arith) (omega arith) ef ev g) ∙ and-false _

pub unequal_sources : (fs gs : List StructField) (vs : List (Option ScalarValue)) → length fs ≢ length vs → fields_convert (fields_of fs) (fields_of gs) (contents_of (raws_in vs)) ≡ false
unequal_sources [] [] [] n = absurd (n refl)
unequal_sources [] [] (v ∷ vs) n = refl
unequal_sources [] (g ∷ gs) vs n = refl
unequal_sources (f ∷ fs) [] vs n = refl
unequal_sources (f ∷ fs) (g ∷ gs) [] n = refl
unequal_sources (f ∷ fs) (g ∷ gs) (v ∷ vs) n = rw (unequal_sources fs gs vs (λ e. n (ap suc e))) (and-false _)

pub unequal_targets : (fs gs : List StructField) (vs : List (Option ScalarValue)) → length gs ≢ length vs → fields_convert (fields_of fs) (fields_of gs) (contents_of (raws_in vs)) ≡ false
unequal_targets [] [] [] n = absurd (n refl)
unequal_targets [] [] (v ∷ vs) n = refl
unequal_targets [] (g ∷ gs) vs n = refl
unequal_targets (f ∷ fs) [] vs n = refl
unequal_targets (f ∷ fs) (g ∷ gs) [] n = refl
unequal_targets (f ∷ fs) (g ∷ gs) (v ∷ vs) n = rw (unequal_targets fs gs vs (λ e. n (ap suc e))) (and-false _)

pub ruleset values = (nulls, converts-null)

pub ruleset tuples = (types.one_level, one_level)

pub ruleset records = (types.one_level, one_level, unequal_sources, unequal_targets)
