-- What callers' rules mean, and what their calls answer.
use Rattle.std.specs.Prelude.{◌≡◌, List, [], ◌∷◌, ◌++◌, map, Option, Some, None, Result, Ok, Err, Bool, true, false, not, ◌&&◌, IfSome, option_map}
use Rattle.std.specs.List.{AllByRecursion}
use Rattle.vortex_model.specs.LogicalType.{LogicalType}
use Rattle.vortex_model_table.specs.Expression.{Expression}
use Rattle.vortex_model_table.specs.Rewrite.{joined_proofs}
use Rattle.vortex_model_rules.specs.Rules.{Rule, Root, of_literal, of_column, of_binary, of_between, of_not, of_is_null, of_is_not_null, of_is_nan, of_like, of_row_count, of_statistic, Answer, no_proof, proof, fault, is_fault, proofs_in, answer_of, asked}
use Rattle.vortex_model_rules.specs.Laws.{KeepsItsLaw}
use Rattle.vortex_dtype_core.specs.Parts.{is_boolean_type}
use Rattle.vortex_stats_bind.specs.Bound.{Bound, expression_of, value_type}
use Rattle.vortex_stats_bind.specs.Bindings.{IsBoundTo}
use Rattle.vortex_stats_bind.specs.Truths.{has_truth, reads_columns}
use Rattle.vortex_stats_expr.specs.declared.scalar_fn.ScalarFnId.{ScalarFnId}
use Rattle.vortex_stats_expr.specs.declared.scalar_fn.ScalarFnId.TheVariants as function
use Rattle.vortex_stats_expr.specs.declared.error.StatsError.{StatsError}
use Rattle.vortex_stats_expr.specs.declared.error.StatsError.TheVariants as error
use Rattle.vortex_stats_rules.specs.Table.{Boxed, unboxed, all_unboxed}
use Rattle.vortex_stats_rules.specs.declared.answers.Claim.{Claim}
use Rattle.vortex_stats_rules.specs.declared.answers.Claim.TheVariants as claim

-- a rule whose proofs are sound
pub record SoundRule : Type 0 where
  pub rule : Rule
  pub keeps_its_law : (k : LogicalType) → KeepsItsLaw k rule

-- the rules of these, where each has such a meaning
abbrev pub rules_of : {B : Type 0} → (B → SoundRule) → List B → List Rule
rules_of meaning bs = map (λ b. (meaning b).rule) bs

abbrev pub root_in : ScalarFnId → Root
root_in function.Literal = of_literal
root_in function.Column = of_column
root_in function.Binary = of_binary
root_in function.Between = of_between
root_in function.Not = of_not
root_in function.IsNull = of_is_null
root_in function.IsNotNull = of_is_not_null
root_in function.IsNan = of_is_nan
root_in function.Like = of_like
root_in function.RowCount = of_row_count
root_in function.Stat = of_statistic

-- The answer of a call of a rule, whose proof is bound. It shows nothing where memory runs out.
abbrev pub IsAnswer : LogicalType → Result (Option Bound) StatsError → Answer → Type 0
IsAnswer k (Ok None) a = a ≡ no_proof
IsAnswer k (Ok (Some b)) a = (a ≡ proof (expression_of b)) × IsBoundTo k b
IsAnswer k (Err error.Memory) a = Unit {0}
IsAnswer k (Err e) a = a ≡ fault

-- memory ran out, or the error is a fault
abbrev pub IsFault : StatsError → Answer → Type 0
IsFault error.Memory a = Unit {0}
IsFault error.RuleFault a = a ≡ fault
IsFault e a = ⊥

-- it is bound to rows of this type, and boolean
pub record IsBoundTruth (k : LogicalType) (b : Bound) : Type 0 where
  pub bound : IsBoundTo k b
  pub boolean : is_boolean_type (value_type b) ≡ true

-- a bound proof has a truth, is boolean, and reads no column outside placeholders
abbrev pub is_usable : Bound → Bool
is_usable b = has_truth b && (is_boolean_type (value_type b) && not (reads_columns b))

-- the proofs in boxes, and the expressions that they are bound from
abbrev pub AreProofs : LogicalType → List Boxed → Type 0
AreProofs k bs = AllByRecursion (IsBoundTruth k) (all_unboxed bs)

abbrev pub expressions_in : List Boxed → List Expression
expressions_in bs = map expression_of (all_unboxed bs)

-- a proof bound to the type, where there is one
abbrev pub IsProofIn : LogicalType → Option Boxed → Type 0
IsProofIn k o = IfSome (unboxed o) (IsBoundTruth k)

abbrev pub expression_in : Option Boxed → Option Expression
expression_in o = option_map expression_of (unboxed o)

-- a proof, or none, or the refusal of a fault
abbrev pub IsJudged : LogicalType → Result (Option Boxed) StatsError → Answer → Type 0
IsJudged k (Ok o) a = (a ≡ answer_of (expression_in o)) × IsProofIn k o
IsJudged k (Err e) a = IsFault e a

-- these proofs, joined, are the answer
abbrev pub AreJoined : LogicalType → List Boxed → Answer → Type 0
AreJoined k bs a = (answer_of (joined_proofs (expressions_in bs)) ≡ a) × AreProofs k bs

-- a rule's answer, which is no fault, comes after the proofs that were there
abbrev pub IsPushed : LogicalType → List Boxed → List Boxed → Answer → Type 0
IsPushed k old new a = (is_fault a ≡ false)
    × (expressions_in new ≡ expressions_in old ++ proofs_in (a ∷ [])) × AreProofs k new

-- what one rule answers at a node to the claim
abbrev pub asked_of : Claim → LogicalType → Expression → Rule → Answer
asked_of claim.NoRow k e rule = asked rule.root rule.falsify k e
asked_of claim.EveryRow k e rule = asked rule.root rule.satisfy k e

-- what the rules answer, in their order
abbrev pub answers_to : Claim → LogicalType → Expression → List Rule → List Answer
answers_to c k e rules = map (asked_of c k e) rules
