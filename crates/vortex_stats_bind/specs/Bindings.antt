-- What binding an expression to rows of a type gives.
use Rattle.std.specs.Prelude.{◌≡◌, Option, Some, None, Result, Ok, Err, Box}
use Rattle.std.specs.declared.alloc.Global.{Global}
use Rattle.vortex_model.specs.LogicalType.{LogicalType}
use Rattle.vortex_model.specs.Path.{Names, positions, type_of_column}
use Rattle.vortex_model_table.specs.Expression.{Expression}
use Rattle.vortex_dtype_core.specs.View.{type_of}
use Rattle.vortex_stats_bind.specs.declared.bound.BoundColumn.{BoundColumn}
use Rattle.vortex_model_rules.specs.Faults.{ProofFault, unknown_column, unequal_types, not_boolean, unsupported_aggregate, not_evaluable, reads_a_column, or_fault, binding_fault}
use Rattle.vortex_stats_expr.specs.declared.error.StatsError.{StatsError}
use Rattle.vortex_stats_expr.specs.declared.error.StatsError.TheVariants as error
use Rattle.vortex_stats_bind.specs.Bound.{Bound, bound_of, expression_of}

-- it is the expression bound to rows of this type, over which the expression has no fault
pub record IsBound (k : LogicalType) (e : Expression) (b : Bound) : Type 0 where
  pub tree : b ≡ bound_of k e
  pub faultless : binding_fault k e ≡ None

-- it is some expression bound to rows of this type
abbrev pub IsBoundTo : LogicalType → Bound → Type 0
IsBoundTo k b = IsBound k (expression_of b) b

-- Memory ran out, or the error is this fault. A proof that reads a column outside placeholders is
-- one that its rule shouldn't have answered.
abbrev pub IsReason : StatsError → Option ProofFault → Type 0
IsReason error.Memory fault = Unit {0}
IsReason error.UnknownColumn fault = fault ≡ Some unknown_column
IsReason error.UnequalTypes fault = fault ≡ Some unequal_types
IsReason error.NotBoolean fault = fault ≡ Some not_boolean
IsReason error.UnsupportedAggregate fault = fault ≡ Some unsupported_aggregate
IsReason error.NotEvaluable fault = fault ≡ Some not_evaluable
IsReason error.RuleFault fault = fault ≡ Some reads_a_column
IsReason e fault = ⊥

-- the expression bound, or refused for its first fault
abbrev pub IsBinding : LogicalType → Expression → Result Bound StatsError → Type 0
IsBinding k e (Ok b) = IsBound k e b
IsBinding k e (Err r) = IsReason r (binding_fault k e)

-- a proof bound where there is one
abbrev pub IsBoundProof : LogicalType → Option Expression → Option Bound → Type 0
IsBoundProof k None None = Unit {0}
IsBoundProof k (Some e) (Some b) = IsBound k e b
IsBoundProof k e b = ⊥

-- a result in a box: the expression bound, or why it isn't
abbrev pub IsBoxed : LogicalType → Expression → Result (Box Bound Global) StatsError → Type 0
IsBoxed k e (Ok b) = IsBound k e b.value
IsBoxed k e (Err r) = IsReason r (binding_fault k e)

-- two expressions bound, in boxes, or refused for their first fault
abbrev pub AreBound : LogicalType → Expression → Expression →
    Result (Box Bound Global × Box Bound Global) StatsError → Type 0
AreBound k x y (Ok both) = IsBound k x both.0.value × IsBound k y both.1.value
AreBound k x y (Err r) = IsReason r (or_fault (binding_fault k x) (binding_fault k y))

-- the column that a path of names leads to in rows of this type, if there is one
abbrev pub IsResolved : LogicalType → Names → Option BoundColumn → Type 0
IsResolved k xs None = positions k xs ≡ None
IsResolved k xs (Some c) = (c.names ≡ xs) × (positions k xs ≡ Some c.positions.items)
    × (type_of_column k xs ≡ Some (type_of c.dtype))
