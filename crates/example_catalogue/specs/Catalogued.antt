-- What a catalogue holds.
use Rattle.std.specs.Prelude.{List, map}
use Rattle.vortex_model.specs.LogicalType.{LogicalType}
use Rattle.vortex_dtype_core.specs.View.{type_of}
use Rattle.vortex_scalar_value.specs.declared.scalar_value.ScalarValue.{ScalarValue}
use Rattle.vortex_stats_bound.specs.declared.precision.Precision as declared
use Rattle.vortex_stats_expr.specs.declared.stat.Stat.{Stat}
use Rattle.vortex_stats_set.specs.Known.{raw_pairs}
use Rattle.vortex_stats_set.specs.Pairs.{Pairs}
use Rattle.example_catalogue.specs.Partitions.{Partitions}
use Rattle.example_catalogue.specs.declared.catalogue.Catalogue.{Catalogue}

-- the partitions with their statistics as raw values
abbrev pub raw_partitions : Partitions (List (Stat × declared.Precision ScalarValue)) →
    Partitions Pairs
raw_partitions es = map (λ e. (e.0, raw_pairs e.1)) es

abbrev pub partitions : Catalogue → Partitions Pairs
partitions c = raw_partitions c.partitions.items

-- the type of the column
abbrev pub kind : Catalogue → LogicalType
kind c = type_of c.dtype
