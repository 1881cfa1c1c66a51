-- Placeholders that are made of bound expressions.
use Rattle.std.specs.Prelude.{◌≡◌, Some, None}
use Rattle.vortex_model_table.specs.Expression.{Aggregate}
use Rattle.vortex_model_table.specs.Typing.{type_of_aggregate}
use Rattle.vortex_stats_bind.specs.Bound.{Bound, placeholder, value_type}
use Rattle.vortex_stats_expr.specs.declared.error.StatsError.{StatsError}
use Rattle.vortex_stats_expr.specs.declared.error.StatsError.TheVariants as error

-- The placeholder for a statistic of the input's values, of the statistic's type. It has a truth
-- where the input has one, and a column in it doesn't count as read.
pub record IsPlaceholderOf (a : Aggregate) (input b : Bound) : Type 0 where
  pub kind : type_of_aggregate a (value_type input) ≡ Some (value_type b)
  pub tree : b ≡ placeholder input a (value_type b)

-- Memory ran out, or the function doesn't take the type of the input's values.
abbrev pub IsPlaceholderFault : Aggregate → Bound → StatsError → Type 0
IsPlaceholderFault a input error.Memory = Unit {0}
IsPlaceholderFault a input error.UnsupportedAggregate = type_of_aggregate a (value_type input) ≡ None
IsPlaceholderFault a input e = ⊥
