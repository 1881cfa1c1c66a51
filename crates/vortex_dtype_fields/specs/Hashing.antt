-- The writes of a type to a hasher, in order, each a list of bytes. They don't depend on
-- nullability.
use Rattle.std.specs.Prelude.{ℕ, ◌+◌, List, [], ◌∷◌, ◌++◌, length}
use Rattle.std.specs.Hash as fed
use Rattle.vortex_model.specs.LogicalType.{LogicalType, null_only, boolean_type, integer_type, float, decimal, utf8, binary, list, fixed_list, mapping, struct, union, variant, extension, Fields, no_fields, field, Variants, no_variants, choice, int_kind_number, float_kind_number}
use Rattle.vortex_dtype_ptype.specs.Numbers.{NumberKind, integral, floating}
use Rattle.vortex_dtype_core.specs.Parts.{field_count, variant_count}

-- numbers that distinguish the primitive types
abbrev pub number_of_kind : NumberKind → ℕ
number_of_kind (integral i) = int_kind_number i
number_of_kind (floating f) = 8 + float_kind_number f

abbrev mutual
  pub type_writes : LogicalType → List (List ℕ)
  type_writes null_only = fed.u8 0
  type_writes (boolean_type n) = fed.u8 1
  type_writes (integer_type i n) = fed.u8 2 ++ fed.u8 (number_of_kind (integral i))
  type_writes (float f n) = fed.u8 2 ++ fed.u8 (number_of_kind (floating f))
  type_writes (decimal p s n) = fed.u8 3 ++ fed.u8 p ++ fed.i8 s
  type_writes (utf8 n) = fed.u8 4
  type_writes (binary n) = fed.u8 5
  type_writes (list k n) = fed.u8 6 ++ type_writes k
  type_writes (fixed_list k m n) = fed.u8 7 ++ fed.u32 m ++ type_writes k
  type_writes (mapping k v s n) = fed.u8 8 ++ fed.bool s ++ type_writes k ++ type_writes v
  type_writes (struct fs n) = fed.u8 9 ++ fed.usize (field_count fs) ++ fields_writes fs
  type_writes (union vs n) = fed.u8 10 ++ fed.usize (variant_count vs) ++ variants_writes vs
  type_writes (variant n) = fed.u8 11
  type_writes (extension id meta k) =
      fed.u8 12 ++ fed.str id ++ fed.usize (length meta) ++ (meta ∷ []) ++ type_writes k

  pub fields_writes : Fields → List (List ℕ)
  fields_writes no_fields = []
  fields_writes (field x k fs) = fed.str x ++ type_writes k ++ fields_writes fs

  pub variants_writes : Variants → List (List ℕ)
  variants_writes no_variants = []
  variants_writes (choice x t k vs) = fed.str x ++ fed.i8 t ++ type_writes k ++ variants_writes vs
