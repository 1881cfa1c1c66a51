use Rattle.std.proofs.Common.{◌≡◌, true, is_some, take}
use Rattle.std.specs.List.{All}
use Rattle.vortex_table_columns.proofs.cells.are_present.Given as goal

abbrev pub invariant-loop-cell : goal.invariant-loop-cell
invariant-loop-cell g l = All (λ cell. is_some cell ≡ true) (take l.cell-index l.cells)
