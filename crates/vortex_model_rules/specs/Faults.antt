-- Why a proof that a caller's rule answers can't be used.
use Rattle.std.specs.Prelude.{Option, Some, None, Bool, not, ◌&&◌, if◌then◌else◌, is_some, option_and_then}
use Rattle.vortex_model.specs.LogicalType.{LogicalType}
use Rattle.vortex_model.specs.Path.{type_of_column}
use Rattle.vortex_model_table.specs.Expression.{Expression, literal, column, compare, both, either, negation, is_null, is_not_null, is_nan, between, like, row_count, statistic, reads_columns}
use Rattle.vortex_model_table.specs.Typing.{expression_type, type_of_aggregate, is_of_floats}
use Rattle.vortex_model_table.specs.Truth.{has_truth}
use Rattle.vortex_model_table.specs.Command.{eq_optional_type, is_boolean, is_utf8_type}

pub data ProofFault : Type 0 where
  unknown_column unequal_types not_boolean : ProofFault
  unsupported_aggregate not_evaluable reads_a_column : ProofFault

-- the first fault, or else the second
abbrev pub or_fault : Option ProofFault → Option ProofFault → Option ProofFault
or_fault None q = q
or_fault (Some f) q = Some f

-- the fault, unless the test passes
abbrev pub unless : Bool → ProofFault → Option ProofFault
unless b f = if b then None else Some f

-- the types are equal up to nullability
abbrev pub are_alike : LogicalType → Expression → Expression → Bool
are_alike k x y = eq_optional_type (expression_type k x) (expression_type k y)

abbrev pub is_truth : LogicalType → Expression → Bool
is_truth k x = is_boolean (expression_type k x)

abbrev pub is_text : LogicalType → Expression → Bool
is_text k x = is_utf8_type (expression_type k x)

-- The first fault by which an expression has no type over rows of this type: children before their
-- parent, left before right. The input of a placeholder is judged like any expression.
abbrev pub binding_fault : LogicalType → Expression → Option ProofFault
binding_fault k (literal l c) = None
binding_fault k (column xs) = unless (is_some (type_of_column k xs)) unknown_column
binding_fault k (compare op x y) =
    or_fault (binding_fault k x) (or_fault (binding_fault k y)
    (unless (are_alike k x y) unequal_types))
binding_fault k (both x y) =
    or_fault (binding_fault k x) (or_fault (binding_fault k y)
    (unless (is_truth k x && is_truth k y) not_boolean))
binding_fault k (either x y) =
    or_fault (binding_fault k x) (or_fault (binding_fault k y)
    (unless (is_truth k x && is_truth k y) not_boolean))
binding_fault k (negation x) = or_fault (binding_fault k x) (unless (is_truth k x) not_boolean)
binding_fault k (is_null x) = binding_fault k x
binding_fault k (is_not_null x) = binding_fault k x
binding_fault k (is_nan x) = or_fault (binding_fault k x) (unless (is_of_floats k x) unequal_types)
binding_fault k (between x lo hi lower_strict upper_strict) =
    or_fault (binding_fault k x) (or_fault (binding_fault k lo) (or_fault (binding_fault k hi)
    (unless (are_alike k x lo && are_alike k x hi) unequal_types)))
binding_fault k (like x form negated ignores_case) =
    or_fault (binding_fault k x) (or_fault (binding_fault k form)
    (unless (is_text k x && is_text k form) unequal_types))
binding_fault k row_count = None
binding_fault k (statistic x a) =
    or_fault (binding_fault k x)
    (unless (is_some (option_and_then (type_of_aggregate a) (expression_type k x)))
    unsupported_aggregate)

-- The first fault of a proof: it has no type, has no truth, is not a boolean, or reads a column
-- outside of placeholders.
abbrev pub proof_fault : LogicalType → Expression → Option ProofFault
proof_fault k p =
    or_fault (binding_fault k p) (or_fault (unless (has_truth k p) not_evaluable)
    (or_fault (unless (is_truth k p) not_boolean) (unless (not (reads_columns p)) reads_a_column)))
