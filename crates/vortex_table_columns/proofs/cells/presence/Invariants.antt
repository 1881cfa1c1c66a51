use Rattle.std.proofs.Common.{◌≡◌, is_some, map, take}
use Rattle.vortex_table_columns.proofs.cells.presence.Given as goal

abbrev pub invariant-loop-cell : goal.invariant-loop-cell
invariant-loop-cell g l = l.bits.items ≡ map is_some (take l.cell-index l.cells)
