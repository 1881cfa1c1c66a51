use Rattle.std.proofs.Common.{◌≡◌, ◌*◌, take}
use Rattle.vortex_arrays_buffer.specs.Bits.{positions_of}
use Rattle.vortex_table_select.proofs.select.true_positions.Given as goal

abbrev pub invariant-loop-k : goal.invariant-loop-k
invariant-loop-k l = l.rows.items ≡ positions_of (take (64 * l.k) l.mask)
