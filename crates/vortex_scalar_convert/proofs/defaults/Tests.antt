-- The test for zero, one item after another.
use Rattle.std.proofs.Math.Bool.{and-false}
use Rattle.std.proofs.Common.{◌≡◌, ◌≢◌, ◌<◌, ◌+◌, ◌&&◌, ◌==◌, sym, ◌∙◌, false, suc, ℕ, List, [], ◌∷◌, length, drop, get_or, Option, Some, None, option_copied, Bor, refl, ap}
use Rattle.std.proofs.lemmas.List.{drop_more}
use Rattle.vortex_model.specs.LogicalType.{LogicalType, fixed_list, struct, stored, Fields}
use Rattle.vortex_model.specs.Content.{Raws, raw_tuple, raw_count}
use Rattle.vortex_dtype_core.specs.Parts.{fixed_element_in_type, fields_in_type}
use Rattle.vortex_dtype_core.specs.View.{type_of, fields_of}
use Rattle.vortex_dtype_core.specs.declared.struct_fields.StructField.{StructField}
use Rattle.vortex_dtype_core.proofs.Views.{field_of-parts}
use Rattle.vortex_scalar_value.specs.View.{raw_in, raw_at, raws_in}
use Rattle.vortex_scalar_value.specs.declared.scalar_value.ScalarValue.{ScalarValue}
use Rattle.vortex_scalar_value.proofs.Sizes.{raw_at-copied}
use Rattle.vortex_scalar_value.proofs.Views.{raw_count-raws_in}
use Rattle.vortex_scalar_convert.specs.defaults.Zero.{is_zero_in, is_zero_value, are_zero, fields_are_zero}

-- ---- by the form of the type

pub zero_fixed : (k e : LogicalType) (rs : Raws) → Some e ≡ fixed_element_in_type k → are_zero e rs ≡ is_zero_in k (raw_tuple rs)
zero_fixed (fixed_list l m n) e rs h = ap (λ x. are_zero x rs) (cc h)
zero_fixed k e rs h = absurd (cc h)

pub zero_record : (k : LogicalType) (fs : Fields) (rs : Raws) → Some fs ≡ fields_in_type k → fields_are_zero fs rs ≡ is_zero_in k (raw_tuple rs)
zero_record (struct gs n) fs rs h = ap (λ x. fields_are_zero x rs) (cc h)
zero_record k fs rs h = absurd (cc h)

pub zero_other : (k : LogicalType) (rs : Raws) → None ≡ fixed_element_in_type k → None ≡ fields_in_type k → (raw_count rs == 0) ≡ is_zero_in k (raw_tuple rs)
zero_other (fixed_list l m n) rs h e = absurd (cc h)
zero_other (struct gs n) rs h e = absurd (cc e)
zero_other k rs h e = refl

pub ruleset tuples = (zero_fixed, zero_record, zero_other, raw_count-raws_in)

-- ---- one after another

pub unequal_lengths : (fs : List StructField) (vs : List (Option ScalarValue)) → length fs ≢ length vs → false ≡ fields_are_zero (fields_of fs) (raws_in vs)
unequal_lengths [] [] n = absurd (n refl)
unequal_lengths [] (v ∷ vs) n = refl
unequal_lengths (f ∷ fs) [] n = refl
unequal_lengths (f ∷ fs) (v ∷ vs) n = rw (← unequal_lengths fs vs (λ e. n (ap suc e))) (sym (and-false _))

-- the first of the fields that are left
pub field_next : (fs : List StructField) (vs : List (Option ScalarValue)) (i : ℕ) (f : StructField) (w : Option ScalarValue) (o : Option (Bor ScalarValue)) → i < length fs → i < length vs → f ≡ get_or fs i f → w ≡ get_or vs i w → option_copied o ≡ w →
    fields_are_zero (fields_of (drop i fs)) (raws_in (drop i vs)) ≡ is_zero_value (type_of f.dtype) (raw_at o) && fields_are_zero (fields_of (drop (i + 1) fs)) (raws_in (drop (i + 1) vs))
field_next fs vs i f w o hf hv ef ev c =
    let rest = fields_are_zero (fields_of (drop (i + 1) fs)) (raws_in (drop (i + 1) vs)) in
    let split_fields : drop i fs ≡ f ∷ drop (i + 1) fs = drop_more fs i f hf ∙ ap (λ u. u ∷ drop (i + 1) fs) (sym ef) in
    let split_values : drop i vs ≡ w ∷ drop (i + 1) vs = drop_more vs i w hv ∙ ap (λ u. u ∷ drop (i + 1) vs) (sym ev) in
    let at : raw_in w ≡ raw_at o = sym (raw_at-copied o ∙ ap (λ u. raw_in u) c) in
    ap (λ gs. fields_are_zero (fields_of gs) (raws_in (drop i vs))) split_fields
    ∙ ap (λ us. fields_are_zero (fields_of (f ∷ drop (i + 1) fs)) (raws_in us)) split_values
    ∙ ap (λ p. is_zero_in (stored p.1) (raw_in w) && rest) (field_of-parts f)
    ∙ ap (λ r. is_zero_in (stored (type_of f.dtype)) r && rest) at

pub ruleset records = (unequal_lengths)
