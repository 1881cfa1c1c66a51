use Rattle.std.proofs.Common.{◌≡◌, map, take}
use Rattle.vortex_scalar_value.specs.View.{raw_of, raw_at}
use Rattle.vortex_table_layout.proofs.rows.borrowed.Given as goal

abbrev pub invariant-loop-row : goal.invariant-loop-row
invariant-loop-row l = map raw_at l.values.items ≡ map raw_of (take l.row-index l.rows)
