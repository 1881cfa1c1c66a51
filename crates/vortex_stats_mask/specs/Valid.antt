-- Which rows are valid.
use Rattle.std.specs.Prelude.{List, Option, Some, None, Bool}
use Rattle.vortex_stats_mask.specs.declared.column.ValidRows.{ValidRows}
use Rattle.vortex_stats_mask.specs.declared.column.ValidRows.TheVariants.{All, Bits, Flags}

-- a boolean for each row, where not all are known to be valid
abbrev pub valid_in : ValidRows → Option (List Bool)
valid_in All = None
valid_in (Bits bits) = Some bits.now
valid_in (Flags flags) = Some flags.now
