-- Sums of the values of a leaf.
use Rattle.std.specs.Prelude.{Bool, true, false, Option, Some, None, option_map}
use Rattle.vortex_model.specs.LogicalType.{IntKind, eq_int_kind}
use Rattle.vortex_scalar_value.specs.Numbers.{kind_of_number}
use Rattle.vortex_scalar_value.specs.declared.pvalue.PValue.{PValue}

-- the kinds are the same
abbrev pub eq_sum_kind : Option IntKind → Option IntKind → Bool
eq_sum_kind None None = true
eq_sum_kind (Some i) (Some j) = eq_int_kind i j
eq_sum_kind i j = false

-- the kind of the sum, if there is one
abbrev pub kind_of_sum : Option PValue → Option IntKind
kind_of_sum o = option_map kind_of_number o

-- the sum is of this kind, if there is one
abbrev pub is_sum_of : Option IntKind → Option PValue → Bool
is_sum_of o None = true
is_sum_of o (Some v) = eq_sum_kind (Some (kind_of_number v)) o
