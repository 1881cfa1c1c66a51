-- The numbers and names of refusals.
use Rattle.std.specs.Prelude.{ℕ, List, codes}
use Rattle.vortex_stats_expr.specs.declared.error.StatsError.{StatsError}
use Rattle.vortex_stats_expr.specs.declared.error.StatsError.TheVariants as error

abbrev pub number_of_error : StatsError → ℕ
number_of_error error.Memory = 1
number_of_error error.NoOverlap = 2
number_of_error error.UnknownColumn = 3
number_of_error error.UnequalTypes = 4
number_of_error error.NotBoolean = 5
number_of_error error.UnsupportedAggregate = 6
number_of_error error.RuleFault = 7
number_of_error error.NotEvaluable = 8
number_of_error error.NoSuchStat = 9
number_of_error error.InvalidStat = 10

abbrev pub name_of_error : StatsError → List ℕ
name_of_error error.Memory = codes "Memory"
name_of_error error.NoOverlap = codes "NoOverlap"
name_of_error error.UnknownColumn = codes "UnknownColumn"
name_of_error error.UnequalTypes = codes "UnequalTypes"
name_of_error error.NotBoolean = codes "NotBoolean"
name_of_error error.UnsupportedAggregate = codes "UnsupportedAggregate"
name_of_error error.RuleFault = codes "RuleFault"
name_of_error error.NotEvaluable = codes "NotEvaluable"
name_of_error error.NoSuchStat = codes "NoSuchStat"
name_of_error error.InvalidStat = codes "InvalidStat"
