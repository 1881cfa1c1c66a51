-- What a scan accepts, and why one with callers' rules is refused.
use Rattle.std.specs.Prelude.{◌≡◌, List, Option, None, Bool, true, ◌||◌}
use Rattle.vortex_model.specs.LogicalType.{LogicalType}
use Rattle.vortex_model_table.specs.Expression.{Expression}
use Rattle.vortex_model.specs.Refusal.{Refusal}
use Rattle.vortex_model_table.specs.Command.{predicate_fault}
use Rattle.vortex_model_rules.specs.Rules.{Rule, is_fault, fals, sat}
use Rattle.vortex_stats_bind.specs.Bindings.{IsBound}
use Rattle.vortex_stats_bind.specs.Bound.{Bound}
use Rattle.vortex_stats_expr.specs.declared.error.StatsError.{StatsError}
use Rattle.vortex_stats_expr.specs.declared.error.StatsError.TheVariants as stats
use Rattle.vortex_table_schema.specs.Error.{Explains}
use Rattle.vortex_table_schema.specs.declared.error.TableError.{TableError}
use Rattle.vortex_table_schema.specs.declared.error.TableError.TheVariants as error

-- it is this predicate bound to rows of this type, which a scan accepts
pub record IsAccepted (k : LogicalType) (e : Expression) (b : Bound) : Type 0 where
  pub bound : IsBound k e b
  pub faultless : predicate_fault k e ≡ None

-- a rule makes one of the two proofs of the predicate a fault
abbrev pub have_fault : LogicalType → List Rule → Expression → Bool
have_fault k rules e = is_fault (fals k rules e) || is_fault (sat k rules e)

-- The error is a rule's fault, where the scan has no refusal, or explains this refusal.
abbrev pub ExplainsWith : Option Refusal → Bool → TableError → Type 0
ExplainsWith refusal faulty error.RuleFault = (refusal ≡ None) × (faulty ≡ true)
ExplainsWith refusal faulty e = Explains ⊥ refusal e

-- of a rewrite of a predicate: memory ran out, or a rule has a fault where this is so
abbrev pub IsOfRules : Bool → StatsError → Type 0
IsOfRules faulty stats.Memory = Unit {0}
IsOfRules faulty stats.RuleFault = faulty ≡ true
IsOfRules faulty e = ⊥

-- of a rewrite, as an error of tables: memory ran out, or a rule has a fault where this is so
abbrev pub IsRuleError : Bool → TableError → Type 0
IsRuleError faulty error.Memory = Unit {0}
IsRuleError faulty error.RuleFault = faulty ≡ true
IsRuleError faulty e = ⊥
