-- Why a bound expression isn't evaluated, and why the proofs of a predicate aren't made.
use Rattle.std.specs.Prelude.{◌≡◌, ◌⊎◌, true, false, Option, Some, None, if◌then◌else◌}
use Rattle.std.specs.Option.{option_or}
use Rattle.vortex_model.specs.LogicalType.{LogicalType}
use Rattle.vortex_model_table.specs.Expression.{Expression}
use Rattle.vortex_model_table.specs.Truth.{HasTruth, has_truth as truth_of}
use Rattle.vortex_model_rules.specs.Faults.{binding_fault}
use Rattle.vortex_model_rules.specs.Rules.{Answer}
use Rattle.vortex_dtype_core.specs.Parts.{is_boolean_type}
use Rattle.vortex_stats_bind.specs.Bindings.{IsReason}
use Rattle.vortex_stats_bind.specs.Bound.{Bound, value_type}
use Rattle.vortex_stats_bind.specs.Truths.{has_truth, first_fault}
use Rattle.vortex_stats_rules.specs.Refusals.{IsRefusal}
use Rattle.vortex_stats_expr.specs.declared.error.StatsError.{StatsError}
use Rattle.vortex_stats_expr.specs.declared.error.StatsError.TheVariants as error

-- its value is a boolean at each row
pub record IsEvaluable (b : Bound) : Type 0 where
  pub truth : has_truth b ≡ true
  pub boolean : is_boolean_type (value_type b) ≡ true

-- Memory ran out, it has no truth, or it is no boolean.
abbrev pub IsTruthFault : Bound → StatsError → Type 0
IsTruthFault b error.Memory = Unit {0}
IsTruthFault b error.NotEvaluable = has_truth b ≡ false
IsTruthFault b error.NotBoolean =
    (has_truth b ≡ true) × (is_boolean_type (value_type b) ≡ false)
IsTruthFault b e = ⊥

-- Why it is no proof: the first fault of a part, and else that it is no boolean.
abbrev pub refusal_of : Bound → Option StatsError
refusal_of b = option_or (first_fault b)
    (if is_boolean_type (value_type b) then None else Some error.NotBoolean)

-- it is a proof
abbrev pub IsProvable : Bound → Type 0
IsProvable b = refusal_of b ≡ None

-- memory ran out, or this
abbrev pub IsProofFault : Bound → StatsError → Type 0
IsProofFault b error.Memory = Unit {0}
IsProofFault b e = refusal_of b ≡ Some e

-- It can't be bound, for this fault or as memory ran out, or it is bound and has no truth.
abbrev pub IsPredicateFault : LogicalType → Expression → StatsError → Type 0
IsPredicateFault k e r = IsReason r (binding_fault k e)
    ⊎ ((binding_fault k e ≡ None) × (r ≡ error.NotEvaluable) × (truth_of k e ≡ false))

-- There is no bound predicate with a truth, or memory ran out or this answer to it is refused.
abbrev pub IsRewriteFault : LogicalType → Expression → Answer → StatsError → Type 0
IsRewriteFault k e a r = IsPredicateFault k e r
    ⊎ ((binding_fault k e ≡ None) × HasTruth k e × IsRefusal k e a r)
