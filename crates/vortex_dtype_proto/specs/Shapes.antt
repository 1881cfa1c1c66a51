-- Well-formed types: those that calls can make.
use Rattle.std.specs.Prelude.{Bool, true, not, ◌&&◌, List, [], ◌∷◌}
use Rattle.vortex_model.specs.LogicalType.{LogicalType, decimal, list, fixed_list, mapping, struct, Fields, no_fields, field, union, Variants, no_variants, choice, extension, nullability_of, is_nullable}
use Rattle.vortex_dtype_ptype.specs.Numbers.{is_decimal_shape}
use Rattle.vortex_dtype_core.specs.Parts.{is_distinct}
use Rattle.vortex_dtype_proto.specs.Messages.{are_tags, variant_tags}

-- At every level decimals are in range, map keys non-nullable, and union tags distinct i8s.
abbrev mutual
  pub is_shaped : LogicalType → Bool
  is_shaped (decimal p s n) = is_decimal_shape p s
  is_shaped (list k n) = is_shaped k
  is_shaped (fixed_list k m n) = is_shaped k
  is_shaped (mapping k v sorted n) =
      not (is_nullable (nullability_of k)) && is_shaped k && is_shaped v
  is_shaped (struct fs n) = are_fields_shaped fs
  is_shaped (union vs n) =
      are_tags (variant_tags vs) && is_distinct (variant_tags vs) && are_variants_shaped vs
  is_shaped (extension id meta k) = is_shaped k
  is_shaped k = true

  pub are_fields_shaped : Fields → Bool
  are_fields_shaped no_fields = true
  are_fields_shaped (field x k fs) = is_shaped k && are_fields_shaped fs

  pub are_variants_shaped : Variants → Bool
  are_variants_shaped no_variants = true
  are_variants_shaped (choice x t k vs) = is_shaped k && are_variants_shaped vs

abbrev pub are_shaped : List LogicalType → Bool
are_shaped [] = true
are_shaped (k ∷ ks) = is_shaped k && are_shaped ks
