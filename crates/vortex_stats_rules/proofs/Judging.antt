-- Proofs that may be used, and those that are faults.
use Rattle.std.proofs.Common.{◌≡◌, Bool, true, false, not, ◌&&◌, Option, Some, None, Result, Ok, refl, sym, ap, ◌∙◌, subst}
use Rattle.vortex_model.specs.LogicalType.{LogicalType}
use Rattle.vortex_model_table.specs.Expression.{Expression}
use Rattle.vortex_model_rules.specs.Faults.{ProofFault, not_boolean, not_evaluable, reads_a_column, or_fault, unless, proof_fault}
use Rattle.vortex_model_rules.specs.Rules.{Answer, proof, fault, judged}
use Rattle.vortex_dtype_core.specs.Parts.{is_boolean_type}
use Rattle.vortex_stats_bind.specs.Bound.{Bound, expression_of, value_type}
use Rattle.vortex_stats_bind.specs.Bindings.{IsBoundTo}
use Rattle.vortex_stats_bind.specs.Truths.{has_truth, reads_columns}
use Rattle.vortex_stats_bind.proofs.Alike.{truth_alike, reads_alike}
use Rattle.vortex_stats_bind.proofs.Made.{truth_by}
use Rattle.vortex_stats_expr.specs.declared.error.StatsError.{StatsError}
use Rattle.vortex_stats_rules.specs.Meanings.{IsBoundTruth, IsAnswer, IsJudged, is_usable}
use Rattle.vortex_stats_rules.specs.Table.{Boxed}

abbrev judged_by : Expression → Option ProofFault → Answer
judged_by p o = elim o [ None ↦ proof p | Some f ↦ fault ]

-- the tests of a proof that is bound
abbrev tested_by : Bool → Bool → Bool → Option ProofFault
tested_by truth boolean reads =
    or_fault (unless truth not_evaluable) (or_fault (unless boolean not_boolean) (unless (not reads) reads_a_column))

fault_by : (k : LogicalType) (b : Bound) → IsBoundTo k b →
    proof_fault k (expression_of b) ≡ tested_by (has_truth b) (is_boolean_type (value_type b)) (reads_columns b)
fault_by k b h = λ i. or_fault (h.faultless i) (tested_by (truth_alike k _ b h i) (truth_by k _ b h i) (reads_alike k _ b h i))

accepted_by : (p : Expression) (truth boolean reads : Bool) → truth && (boolean && not reads) ≡ true → judged_by p (tested_by truth boolean reads) ≡ proof p
accepted_by p true true false h = refl
accepted_by p true true true h = cc (h)
accepted_by p true false reads h = cc (h)
accepted_by p false boolean reads h = cc (h)

boolean_so : (truth boolean reads : Bool) → truth && (boolean && not reads) ≡ true → boolean ≡ true
boolean_so truth true reads h = refl
boolean_so true false reads h = cc (h)
boolean_so false false reads h = cc (h)

faulty_by : (p : Expression) (truth boolean reads : Bool) → truth && (boolean && not reads) ≡ false → judged_by p (tested_by truth boolean reads) ≡ fault
faulty_by p true true true h = refl
faulty_by p true false reads h = refl
faulty_by p false boolean reads h = refl
faulty_by p true true false h = cc (h)

-- a proof that was answered
answered : (k : LogicalType) (answer : Result (Option Bound) StatsError) (a : Answer) (p : Bound) → answer ≡ Ok (Some p) → IsAnswer k answer a →
    (a ≡ proof (expression_of p)) × IsBoundTo k p
answered k answer a p is h = subst (λ x. IsAnswer k x a) is h

-- one that may be used, in its box
pub accepted : (k : LogicalType) (answer : Result (Option Bound) StatsError) (a : Answer) (p : Bound) (b : Boxed) → answer ≡ Ok (Some p) → b.value ≡ p → is_usable p ≡ true →
    IsAnswer k answer a → IsJudged k (Ok (Some b)) (judged k a)
accepted k answer a p b is same t h =
    let said = answered k answer a p is h in (
      ap (judged k) said.0 ∙ ap (judged_by (expression_of p)) (fault_by k p said.1)
          ∙ accepted_by (expression_of p) (has_truth p) (is_boolean_type (value_type p)) (reads_columns p) t
          ∙ ap (λ c. proof (expression_of c)) (sym same),
      subst (IsBoundTruth k) (sym same)
          record { bound = said.1; boolean = boolean_so (has_truth p) (is_boolean_type (value_type p)) (reads_columns p) t },
    )

-- and one that may not
pub faulty : (k : LogicalType) (answer : Result (Option Bound) StatsError) (a : Answer) (p : Bound) → answer ≡ Ok (Some p) → is_usable p ≡ false → IsAnswer k answer a →
    judged k a ≡ fault
faulty k answer a p is f h =
    let said = answered k answer a p is h in
    ap (judged k) said.0 ∙ ap (judged_by (expression_of p)) (fault_by k p said.1)
    ∙ faulty_by (expression_of p) (has_truth p) (is_boolean_type (value_type p)) (reads_columns p) f
