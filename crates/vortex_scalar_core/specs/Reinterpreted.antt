-- Integers reinterpreted as those of another type.
use Rattle.std.specs.Prelude.{Bool, false}
use Rattle.std.specs.Ordering.{int_eq}
use Rattle.vortex_model.specs.LogicalType.{LogicalType, integer_type}
use Rattle.vortex_model.specs.Content.{Raw, raw_null, raw_number}
use Rattle.vortex_dtype_ptype.specs.Numbers.{NumberKind, integral, reach_of}
use Rattle.vortex_scalar_value.specs.Numbers.{HaveSameBytes}

-- both are integer types of one width
abbrev pub are_as_wide : NumberKind → NumberKind → Bool
are_as_wide (integral i) (integral j) = int_eq (reach_of i) (reach_of j)
are_as_wide k l = false

-- the type is an integer type of this width
abbrev pub is_as_wide : LogicalType → NumberKind → Bool
is_as_wide (integer_type i n) k = are_as_wide (integral i) k
is_as_wide t k = false

-- both are integers with the same little-endian bytes, or both are null
abbrev pub HaveTheSameBytes : Raw → Raw → Type 0
HaveTheSameBytes raw_null raw_null = Unit {0}
HaveTheSameBytes (raw_number i x) (raw_number j y) = HaveSameBytes i x j y
HaveTheSameBytes r s = ⊥
