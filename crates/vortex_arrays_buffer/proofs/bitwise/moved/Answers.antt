use Rattle.std.proofs.Common.{◌*◌, arith}
use Rattle.vortex_arrays_buffer.proofs.BitMoves.{all_moved}
use Rattle.vortex_arrays_buffer.proofs.bitwise.moved.Goals as goal

pub returns-clause-bits : goal.returns-clause-bits
returns-clause-bits c = all_moved c.args.bytes.now c.loop-k.moved.items c.args.start c.args.len (8 * c.loop-k.k) c.loop-k.invariant (omega arith)
