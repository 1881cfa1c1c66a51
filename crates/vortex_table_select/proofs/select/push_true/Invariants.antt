use Rattle.std.proofs.Common.{◌≡◌, take}
use Rattle.vortex_arrays_buffer.specs.Bits.{positions_of}
use Rattle.vortex_table_select.proofs.select.push_true.Given as goal

abbrev pub invariant-loop-i : goal.invariant-loop-i
invariant-loop-i l = l.rows.items ≡ positions_of (take l.i l.mask)
