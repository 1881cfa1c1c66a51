-- Types of expressions.
use Rattle.std.specs.Prelude.{Option, Some, None, Bool, true, false, option_and_then, option_map, if◌then◌else◌, codes}
use Rattle.std.specs.Option.{option_map_or}
use Rattle.vortex_model.specs.LogicalType.{LogicalType, boolean_type, integer_type, float, decimal, utf8, binary, struct, no_fields, field, nullable, non_nullable, with_nullability, IntKind, u8, u16, u32, u64, i8, i16, i32, i64, f64}
use Rattle.vortex_model.specs.Path.{type_of_column}
use Rattle.vortex_model_table.specs.Expression.{Expression, literal, column, row_count, statistic, Aggregate, min, max, sum, null_count, nan_count, size, min_max, all_null, all_non_null, all_nan, all_non_nan}

-- the type of a sum: i64 for signed integers, u64 for unsigned integers and booleans
abbrev pub sum_kind : LogicalType → Option IntKind
sum_kind (boolean_type n) = Some u64
sum_kind (integer_type u8 n) = Some u64
sum_kind (integer_type u16 n) = Some u64
sum_kind (integer_type u32 n) = Some u64
sum_kind (integer_type u64 n) = Some u64
sum_kind (integer_type i8 n) = Some i64
sum_kind (integer_type i16 n) = Some i64
sum_kind (integer_type i32 n) = Some i64
sum_kind (integer_type i64 n) = Some i64
sum_kind k = None

abbrev pub is_float : LogicalType → Bool
is_float (float f n) = true
is_float k = false

-- booleans, numbers, decimals, strings and bytes have a least and a greatest value
abbrev pub has_bounds : LogicalType → Bool
has_bounds (boolean_type n) = true
has_bounds (integer_type i n) = true
has_bounds (float f n) = true
has_bounds (decimal p s n) = true
has_bounds (utf8 n) = true
has_bounds (binary n) = true
has_bounds k = false

-- the type of a sum, which for floats is f64
abbrev pub type_of_sum : LogicalType → Option LogicalType
type_of_sum (float f n) = Some (float f64 nullable)
type_of_sum k = option_and_then (λ i. Some (integer_type i nullable)) (sum_kind k)

-- the type of a least or a greatest value
abbrev pub type_of_bound : LogicalType → Option LogicalType
type_of_bound k = if has_bounds k then Some (with_nullability nullable k) else None

-- a nullable struct of the least and the greatest value, both of this type
abbrev pub bounds_record : LogicalType → LogicalType
bounds_record k = struct (field (codes "min") k (field (codes "max") k no_fields)) nullable

-- a number of rows, or a size in bytes
abbrev pub count_type : LogicalType
count_type = integer_type u64 nullable

-- The type of a placeholder over an expression of this type, where the statistic exists for it. It
-- is nullable, since statistics may be absent.
abbrev pub type_of_aggregate : Aggregate → LogicalType → Option LogicalType
type_of_aggregate min k = type_of_bound k
type_of_aggregate max k = type_of_bound k
type_of_aggregate min_max k = option_map bounds_record (type_of_bound k)
type_of_aggregate sum k = type_of_sum k
type_of_aggregate null_count k = Some count_type
type_of_aggregate size k = Some count_type
type_of_aggregate all_null k = Some (boolean_type nullable)
type_of_aggregate all_non_null k = Some (boolean_type nullable)
type_of_aggregate nan_count k = if is_float k then Some count_type else None
type_of_aggregate all_nan k = if is_float k then Some (boolean_type nullable) else None
type_of_aggregate all_non_nan k = if is_float k then Some (boolean_type nullable) else None

-- the type of an expression over rows of this type, where it has one
abbrev pub expression_type : LogicalType → Expression → Option LogicalType
expression_type k (literal l c) = Some l
expression_type k (column xs) = type_of_column k xs
expression_type k row_count = Some (integer_type u64 non_nullable)
expression_type k (statistic x a) = option_and_then (type_of_aggregate a) (expression_type k x)
expression_type k e = Some (boolean_type nullable)

-- of float type
abbrev pub is_of_floats : LogicalType → Expression → Bool
is_of_floats k x = option_map_or is_float (expression_type k x) false
