-- Why bound expressions are no proofs.
use Rattle.std.proofs.Common.{◌≡◌, ap, ◌∙◌, Option, Some, None, Bool, true, false, if◌then◌else◌}
use Rattle.std.specs.Option.{option_or}
use Rattle.vortex_dtype_core.specs.Parts.{is_boolean_type}
use Rattle.vortex_stats_bind.specs.Bound.{Bound, value_type}
use Rattle.vortex_stats_bind.specs.Truths.{first_fault}
use Rattle.vortex_stats_expr.specs.declared.error.StatsError.{StatsError}
use Rattle.vortex_stats_expr.specs.declared.error.StatsError.TheVariants as error
use Rattle.vortex_stats_evaluate.specs.Refusals.{refusal_of, IsProvable, IsProofFault}

refused_by : (b : Bound) (e : StatsError) → refusal_of b ≡ Some e → IsProofFault b e
refused_by b error.Memory h = tt
refused_by b e h = h

abbrev last_of : Bool → Option StatsError
last_of t = if t then None else Some error.NotBoolean

pub faulty : (b : Bound) (f : StatsError) → first_fault b ≡ Some f → IsProofFault b f
faulty b f h = refused_by b f (ap (λ o. option_or o (last_of (is_boolean_type (value_type b)))) h)

pub no_boolean : (b : Bound) → first_fault b ≡ None → is_boolean_type (value_type b) ≡ false →
    IsProofFault b error.NotBoolean
no_boolean b h g =
    ap (λ o. option_or o (last_of (is_boolean_type (value_type b)))) h ∙ ap last_of g

pub a_proof : (b : Bound) → first_fault b ≡ None → is_boolean_type (value_type b) ≡ true →
    IsProvable b
a_proof b h g = ap (λ o. option_or o (last_of (is_boolean_type (value_type b)))) h ∙ ap last_of g

pub ruleset of_proofs = (faulty, no_boolean, a_proof)
