-- Lists of statistics with raw values: reading one, and replacing it.
use Rattle.std.specs.Prelude.{List, Option, Some, None}
use Rattle.vortex_model.specs.Content.{Raw}
use Rattle.vortex_model_table.specs.Statistics.{Precision, absent}
use Rattle.vortex_stats_expr.specs.declared.stat.Stat.{Stat}
use Rattle.vortex_stats_set.specs.Sets.{value_in, set_in, without}

abbrev pub Pairs : Type 0
Pairs = List (Stat × Precision Raw)

-- a missing statistic is absent
abbrev pub or_nothing : Option (Precision Raw) → Precision Raw
or_nothing None = absent
or_nothing (Some p) = p

-- the precision of the statistic
abbrev pub known : Pairs → Stat → Precision Raw
known xs s = or_nothing (value_in xs s)

-- the statistic has this value, or is removed where there is none
abbrev pub put : Pairs → Stat → Option (Precision Raw) → Pairs
put xs s None = without xs s
put xs s (Some p) = set_in xs s p
