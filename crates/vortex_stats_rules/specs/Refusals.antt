-- Why a rewrite is refused.
use Rattle.std.specs.Prelude.{◌≡◌, true, false}
use Rattle.vortex_model.specs.LogicalType.{LogicalType}
use Rattle.vortex_model_table.specs.Expression.{Expression}
use Rattle.vortex_model_table.specs.Typing.{expression_type}
use Rattle.vortex_model_table.specs.Command.{is_boolean}
use Rattle.vortex_model_rules.specs.Rules.{Answer, fault}
use Rattle.vortex_stats_expr.specs.declared.error.StatsError.{StatsError}
use Rattle.vortex_stats_expr.specs.declared.error.StatsError.TheVariants as error

-- the values are booleans
abbrev pub IsPredicate : LogicalType → Expression → Type 0
IsPredicate k e = is_boolean (expression_type k e) ≡ true

-- Memory ran out, the expression is no predicate, or a rule made a fault of the answer.
abbrev pub IsRefusal : LogicalType → Expression → Answer → StatsError → Type 0
IsRefusal k e a error.Memory = Unit {0}
IsRefusal k e a error.NotBoolean = is_boolean (expression_type k e) ≡ false
IsRefusal k e a error.RuleFault = IsPredicate k e × (a ≡ fault)
IsRefusal k e a r = ⊥
