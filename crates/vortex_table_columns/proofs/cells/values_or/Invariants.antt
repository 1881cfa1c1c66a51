use Rattle.std.proofs.Common.{◌≡◌, unwrap_or, map, take}
use Rattle.vortex_table_columns.proofs.cells.values_or.Given as goal

abbrev pub invariant-loop-cell : goal.invariant-loop-cell
invariant-loop-cell g l = l.values.items ≡ map (λ cell. unwrap_or cell l.other) (take l.cell-index l.cells)
