-- Results of operators on integers of one type.
use Rattle.std.specs.Prelude.{◌≡◌, ℤ, pos, ◌+ℤ◌, ◌-ℤ◌, ◌*ℤ◌, int_div, IsTrue, if◌then◌else◌, Option, Some, None, is_some, option_and_then}
use Rattle.std.specs.Ordering.{int_eq}
use Rattle.vortex_model.specs.LogicalType.{LogicalType, IntKind, either_nullable, nullability_of, with_nullability}
use Rattle.vortex_model.specs.Content.{Raw, raw_null, raw_number}
use Rattle.vortex_model.specs.Valid.{in_range}
use Rattle.vortex_dtype_core.specs.Parts.{numbers_in_type}
use Rattle.vortex_scalar_views.specs.Forms.{Typed}
use Rattle.vortex_scalar_views.specs.declared.numeric_operator.NumericOperator.{NumericOperator}
use Rattle.vortex_scalar_views.specs.declared.numeric_operator.NumericOperator.TheVariants as operator

-- the operator's result; a quotient is rounded toward zero, and there is none by zero
abbrev pub whole_by : NumericOperator → ℤ → ℤ → Option ℤ
whole_by operator.Add x y = Some (x +ℤ y)
whole_by operator.Sub x y = Some (x -ℤ y)
whole_by operator.Mul x y = Some (x *ℤ y)
whole_by operator.Div x y = if int_eq y (pos 0) then None else Some (int_div x y)

-- the integer as one of type i, where that holds it
abbrev pub number_within : IntKind → ℤ → Option Raw
number_within i z = if in_range i z then Some (raw_number i z) else None

-- The operator's result for two integers of one type, as one of this type, and none where it
-- doesn't fit or doesn't exist. Null where a side is null.
abbrev pub raw_by : NumericOperator → Raw → Raw → Option Raw
raw_by op (raw_number i x) (raw_number j y) =
    option_and_then (λ z. number_within i z) (whole_by op x y)
raw_by op r s = Some raw_null

-- the type of the result: nullable where a side is
abbrev pub kind_by : LogicalType → LogicalType → LogicalType
kind_by k l = with_nullability (either_nullable (nullability_of k) (nullability_of l)) k

-- both are types of one primitive type
abbrev pub HaveSameNumbers : LogicalType → LogicalType → Type 0
HaveSameNumbers k l = numbers_in_type k ≡ numbers_in_type l

-- an operator's requirement on its sides, each a type and a value of it, and its result
abbrev pub CanMake : NumericOperator → Typed → Typed → Type 0
CanMake op t u = HaveSameNumbers t.0 u.0 × IsTrue (is_some (raw_by op t.1 u.1))

abbrev pub Makes : NumericOperator → Typed → Typed → Typed → Type 0
Makes op t u made = (raw_by op t.1 u.1 ≡ Some made.1) × (made.0 ≡ kind_by t.0 u.0)
