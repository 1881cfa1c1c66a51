-- Rows of native values.
use Rattle.std.specs.Cmp.Derive.{both_true}
use Rattle.std.proofs.Common.{◌≡◌, ◌∙◌, ◌&&◌, Bool, true, false, List, [], ◌∷◌, ◌++◌, map, Option, refl, sym, ap, subst}
use Rattle.std.proofs.lemmas.List.{map_push}
use Rattle.vortex_model.specs.LogicalType.{LogicalType, Fields, no_fields, field, struct, non_nullable}
use Rattle.vortex_model.specs.Content.{Raw, raw_tuple}
use Rattle.vortex_model.specs.Valid.{valid, fields_have}
use Rattle.vortex_dtype_fields.specs.Records.{types_of}
use Rattle.vortex_scalar_value.specs.View.{raw_in, raws_in, raws_from}
use Rattle.vortex_scalar_value.specs.declared.scalar_value.ScalarValue.{ScalarValue}
use Rattle.vortex_scalar_ops.specs.Rows.{all_valid, AreCells}
use Rattle.std.specs.Cmp.{first_so, second_so}

-- one more field
all_valid-more : (ks : List LogicalType) (rs : List Raw) (k : LogicalType) (r : Raw) → all_valid ks rs ≡ true → valid k r ≡ true → all_valid (ks ++ k ∷ []) (rs ++ r ∷ []) ≡ true
all_valid-more [] [] k r h g = both_true g refl
all_valid-more [] (s ∷ rs) k r h g = absurd (cc (h))
all_valid-more (l ∷ ks) [] k r h g = absurd (cc (h))
all_valid-more (l ∷ ks) (s ∷ rs) k r h g = both_true (first_so _ _ h) (all_valid-more ks rs k r (second_so _ _ h) g)

pub one_more : (ks : List LogicalType) (rs : List Raw) (vs : List (Option ScalarValue)) (k : LogicalType) (r : Raw) (v : Option ScalarValue) →
    raw_in v ≡ r → valid k (raw_in v) ≡ true → AreCells ks rs vs → AreCells (ks ++ k ∷ []) (rs ++ r ∷ []) (vs ++ v ∷ [])
one_more ks rs vs k r v e g all = record {
  values = map_push raw_in vs v ∙ ap (λ us. us ++ raw_in v ∷ []) all.values ∙ ap (λ s. rs ++ s ∷ []) e;
  valid = all_valid-more ks rs k r all.valid (sym (ap (λ s. valid k s) e) ∙ g);
}

-- the fields are those of a struct of their types
fields_have-all_valid : (fs : Fields) (rs : List Raw) → all_valid (types_of fs) rs ≡ true → fields_have fs (raws_from rs) ≡ true
fields_have-all_valid no_fields [] h = refl
fields_have-all_valid no_fields (r ∷ rs) h = absurd (cc (h))
fields_have-all_valid (field x k fs) [] h = absurd (cc (h))
fields_have-all_valid (field x k fs) (r ∷ rs) h = both_true (first_so _ _ h) (fields_have-all_valid fs rs (second_so _ _ h))

pub valid_row : (ks : List LogicalType) (rs : List Raw) (vs : List (Option ScalarValue)) → AreCells ks rs vs → (fs : Fields) → types_of fs ≡ ks → valid (struct fs non_nullable) (raw_tuple (raws_in vs)) ≡ true
valid_row ks rs vs all fs e =
    ap (λ us. fields_have fs (raws_from us)) all.values
    ∙ fields_have-all_valid fs rs (subst (λ ls. all_valid ls rs ≡ true) (sym e) all.valid)
