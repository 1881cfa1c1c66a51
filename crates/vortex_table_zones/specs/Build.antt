-- Why rows make no array.
use Rattle.std.specs.Prelude.{List, Option}
use Rattle.vortex_model.specs.LogicalType.{LogicalType}
use Rattle.vortex_model.specs.Content.{Raw}
use Rattle.vortex_model.specs.Kept.{type_fault}
use Rattle.vortex_model.specs.Refusal.{Refusal, or_else}
use Rattle.vortex_model_table.specs.Command.{first_invalid}

-- the type is judged before the rows
abbrev pub rows_fault : LogicalType → List Raw → Option Refusal
rows_fault k rs = or_else (type_fault k) (first_invalid 0 k rs)
