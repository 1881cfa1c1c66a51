-- The size of types, which bounds the depth of recursion.
use Rattle.std.proofs.Common.{◌≡◌, ℕ, zero, suc, ◌+◌, ◌<◌, List, [], ◌∷◌, length, get_or, arith, ap, sym, ◌∙◌}
use Rattle.vortex_model.specs.LogicalType.{LogicalType, list, fixed_list, mapping, struct, union, extension, Fields, no_fields, field, Variants, no_variants, choice}
use Rattle.vortex_dtype_core.specs.View.{type_of, fields_of, field_of, variants_of, variant_of}
use Rattle.vortex_dtype_core.specs.declared.struct_fields.StructField.{StructField}
use Rattle.vortex_dtype_core.specs.declared.union_variants.UnionVariant.{UnionVariant}
use Rattle.vortex_dtype_core.proofs.Views.{one_level, field_of-parts, variant_of-parts, extension_type-parts}

abbrev mutual
  pub type_size : LogicalType → ℕ
  type_size (list k n) = suc (type_size k)
  type_size (fixed_list k m n) = suc (type_size k)
  type_size (mapping k v s n) = suc (type_size k + type_size v)
  type_size (struct fs n) = suc (fields_size fs)
  type_size (union vs n) = suc (variants_size vs)
  type_size (extension id meta k) = suc (type_size k)
  type_size k = 0

  pub fields_size : Fields → ℕ
  fields_size no_fields = 0
  fields_size (field x k fs) = suc (type_size k + fields_size fs)

  pub variants_size : Variants → ℕ
  variants_size no_variants = 0
  variants_size (choice x t k vs) = suc (type_size k + variants_size vs)

first_smaller : (f g : StructField) (fs : List StructField) → f ≡ g → type_size (type_of f.dtype) < fields_size (fields_of (g ∷ fs))
first_smaller f g fs e =
    let p : type_size (field_of g).1 ≡ type_size (type_of f.dtype) = ap (λ n. type_size n.1) (field_of-parts g) ∙ ap (λ h. type_size (type_of h.dtype)) (sym e) in
    omega arith

-- each field is smaller than the struct
pub field_smaller : (fs : List StructField) (i : ℕ) (f : StructField) → i < length fs → f ≡ get_or fs i f → type_size (type_of f.dtype) < fields_size (fields_of fs)
field_smaller [] i f h e = absurd (omega arith)
field_smaller (g ∷ fs) zero f h e = first_smaller f g fs e
field_smaller (g ∷ fs) (suc i) f h e = let k = field_smaller fs i f (omega arith) e in omega (arith, k)

first_choice_smaller : (v w : UnionVariant) (vs : List UnionVariant) → v ≡ w → type_size (type_of v.dtype) < variants_size (variants_of (w ∷ vs))
first_choice_smaller v w vs e =
    let p : type_size (variant_of w).1.1 ≡ type_size (type_of v.dtype) = ap (λ n. type_size n.1.1) (variant_of-parts w) ∙ ap (λ u. type_size (type_of u.dtype)) (sym e) in
    omega arith

-- each variant is smaller than the union
pub choice_smaller : (vs : List UnionVariant) (i : ℕ) (v : UnionVariant) → i < length vs → v ≡ get_or vs i v → type_size (type_of v.dtype) < variants_size (variants_of vs)
choice_smaller [] i v h e = absurd (omega arith)
choice_smaller (w ∷ vs) zero v h e = first_choice_smaller v w vs e
choice_smaller (w ∷ vs) (suc i) v h e = let k = choice_smaller vs i v (omega arith) e in omega (arith, k)

pub ruleset levels = (one_level, field_of-parts, extension_type-parts)
