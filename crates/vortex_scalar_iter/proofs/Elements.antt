-- Elements of lists, one after another.
use Rattle.std.proofs.Common.{◌≡◌, suc, List, [], ◌∷◌, length, true, Option, Some, None, option_copied, Bor, refl, sym, ap, ◌∙◌}
use Rattle.std.proofs.lemmas.Bool.{and_parts}
use Rattle.vortex_model.specs.LogicalType.{LogicalType, stored}
use Rattle.vortex_model.specs.Content.{Raw, raw_null, raw_tuple, Raws}
use Rattle.vortex_model.specs.Valid.{valid, has, all_have}
use Rattle.vortex_scalar_value.specs.View.{raws_in, raw_in, raw_at}
use Rattle.vortex_scalar_value.specs.declared.scalar_value.ScalarValue.{ScalarValue}
use Rattle.vortex_scalar_value.proofs.Sizes.{raw_at-copied}
use Rattle.vortex_dtype_core.specs.Parts.{list_element}
use Rattle.vortex_scalar_nested.specs.Places.{each_of, each_part, elements_of}
use Rattle.vortex_scalar_nested.proofs.Elements.{list_all}

pub seen : (v : Option ScalarValue) (o : Option (Bor ScalarValue)) → option_copied o ≡ v → raw_at o ≡ raw_in v
seen v o c = raw_at-copied o ∙ ap (λ u. raw_in u) c

pub first_valid : (e : LogicalType) (v : Option ScalarValue) (vs : List (Option ScalarValue)) (o : Option (Bor ScalarValue)) → all_have e (raws_in (v ∷ vs)) ≡ true → option_copied o ≡ v → valid e (raw_at o) ≡ true
first_valid e v vs o h c = ap (λ r. has (stored e) r) (seen v o c) ∙ (and_parts (has (stored e) (raw_in v)) (all_have e (raws_in vs)) h).0

pub others_valid : (e : LogicalType) (v : Option ScalarValue) (vs : List (Option ScalarValue)) → all_have e (raws_in (v ∷ vs)) ≡ true → all_have e (raws_in vs) ≡ true
others_valid e v vs h = (and_parts (has (stored e) (raw_in v)) (all_have e (raws_in vs)) h).1

pub first_element : (e : LogicalType) (v : Option ScalarValue) (vs : List (Option ScalarValue)) (o : Option (Bor ScalarValue)) → option_copied o ≡ v → each_of e (raws_in (v ∷ vs)) ≡ (e, raw_at o) ∷ each_of e (raws_in vs)
first_element e v vs o c = ap (λ r. (e, r) ∷ each_of e (raws_in vs)) (sym (seen v o c))

pub eq_length : (e : LogicalType) (vs : List (Option ScalarValue)) → length (each_of e (raws_in vs)) ≡ length vs
eq_length e [] = refl
eq_length e (v ∷ vs) = ap suc (eq_length e vs)

pub ruleset first_of = (first_valid, others_valid, first_element)

pub ruleset counted = (eq_length)

-- ---- the elements of a list

pub list_elements : (k e : LogicalType) (r : Raw) (rs : Raws) → list_element k ≡ Some e → raw_tuple rs ≡ r → Some (each_of e rs) ≡ elements_of (k, r)
list_elements k e r rs h p = sym (ap (λ o. each_part o r) h ∙ ap (λ z. each_part (Some e) z) (sym p))

pub no_elements_of_null : (k : LogicalType) (r : Raw) → raw_null ≡ r → None ≡ elements_of (k, r)
no_elements_of_null k r p = none_at (list_element k) ∙ ap (λ z. elements_of (k, z)) p where
  none_at : (o : Option LogicalType) → None ≡ each_part o raw_null
  none_at None = refl
  none_at (Some e) = refl

pub ruleset listed = (list_all, list_elements, no_elements_of_null)
