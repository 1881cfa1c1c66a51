-- What a reader of files may believe of proofs that it binds to its own statistics.
use Rattle.std.specs.Prelude.{◌≡◌, ◌⊎◌, pos, List, length, map, true, false, Option, IfSome, option_map}
use Rattle.std.specs.List.{AllByRecursion}
use Rattle.vortex_model.specs.LogicalType.{LogicalType}
use Rattle.vortex_model.specs.Content.{Content, null, integer}
use Rattle.vortex_model.specs.Valid.{IsContent}
use Rattle.vortex_model_table.specs.Expression.{Expression, Aggregate, HasFormedLiterals}
use Rattle.vortex_model_table.specs.Statistics.{Statistics, IsHonest, placeholder_value}
use Rattle.vortex_model_table.specs.Truth.{is_true, selects, HasTruth}
use Rattle.vortex_model_rules.specs.Rules.{Rule, Answer, proof, answer_of, fals, sat}
use Rattle.vortex_stats_bind.specs.Bound.{Bound, Provided, placeholder, expression_of, evaluate_bound, bound_value}
use Rattle.vortex_stats_bind.specs.Bindings.{IsBoundTo}
use Rattle.vortex_stats_bind.specs.Replaced.{Answers, replaced}

-- null, or the value of a statistic of these values by honest statistics of them
abbrev pub IsHonestValue : Aggregate → List Content → Content → Type 0
IsHonestValue a values c = (c ≡ null) ⊎ ((s : Statistics) × IsHonest s values ×
    (c ≡ placeholder_value a s (length values)))

-- Rows of a type, and the values of an honest binder's answers beside them: their number, and for
-- each statistic of an expression an honest value of what the expression is at the rows.
pub record IsZone (k : LogicalType) (answers : Answers) (p : Provided) (rows : List Content)
    : Type 0 where
  pub typed : AllByRecursion (IsContent k) rows
  pub counted : evaluate_bound p answers.rows ≡ integer (pos (length rows))
  pub honest : (x : Bound) (a : Aggregate) (l : LogicalType) → IsBoundTo k (placeholder x a l) →
      IsHonestValue a (map (bound_value x) rows) (evaluate_bound p (answers.statistic x a l))

-- the proof is the answer, bound to the type
pub record IsProofOf (k : LogicalType) (a : Answer) (o : Option Bound) : Type 0 where
  pub answer : a ≡ answer_of (option_map expression_of o)
  pub bound : IfSome o (IsBoundTo k)

-- the proof that is the answer, if there is one, bound by a binder with these answers
pub record IsAnswered (k : LogicalType) (answers : Answers) (a : Answer) (found : Option Bound)
    : Type 0 where
  pub unbound : Option Bound
  pub made : IsProofOf k a unbound
  pub bound : found ≡ option_map (replaced answers) unbound

-- a proof that was made, bound to the type
pub record IsMade (k : LogicalType) (a : Answer) (p : Bound) : Type 0 where
  pub bound : IsBoundTo k p
  pub made : a ≡ proof (expression_of p)

-- Where the bound proof is true of a zone, the predicate selects none of its rows, or each.
abbrev pub SelectsNone : LogicalType → Answers → Expression → Bound → Type 0
SelectsNone k answers e bound = (p : Provided) (rows : List Content) → IsZone k answers p rows →
    is_true (evaluate_bound p bound) ≡ true → AllByRecursion (λ row. selects k e row ≡ false) rows

abbrev pub SelectsEach : LogicalType → Answers → Expression → Bound → Type 0
SelectsEach k answers e bound = (p : Provided) (rows : List Content) → IsZone k answers p rows →
    is_true (evaluate_bound p bound) ≡ true → AllByRecursion (λ row. selects k e row ≡ true) rows

-- The predicate has a truth, and its literals are of their types, as of what `bind` accepts. A
-- falsifier made of it with these rules, bound by an honest binder, is sound.
abbrev pub FalsifiedZonesHoldNone : List Rule → Type 0
FalsifiedZonesHoldNone rules = (k : LogicalType) (e : Expression) (falsifier : Bound)
    (answers : Answers) → HasTruth k e → HasFormedLiterals e →
    IsMade k (fals k rules e) falsifier → SelectsNone k answers e (replaced answers falsifier)

-- A satisfier made so of such a predicate, bound by an honest binder, is sound.
abbrev pub SatisfiedZonesHoldAll : List Rule → Type 0
SatisfiedZonesHoldAll rules = (k : LogicalType) (e : Expression) (satisfier : Bound)
    (answers : Answers) → HasTruth k e → HasFormedLiterals e →
    IsMade k (sat k rules e) satisfier → SelectsEach k answers e (replaced answers satisfier)
