use Rattle.std.proofs.Common.{◌∙◌, arith}
use Rattle.std.proofs.lemmas.Result.{IfOk-weaker}
use Rattle.vortex_arrays_buffer.proofs.Built.{places_all}
use Rattle.vortex_arrays_buffer.proofs.bit_buffer.BitBuffer.from_indices.Goals as goal

pub returns : goal.returns
returns c = IfOk-weaker c.of_bytes.result _ _ (λ b is. is ∙ places_all c.loop-i.bytes.items c.args.indices.now c.loop-i.i c.args.len (omega arith) c.loop-i.invariant) c.of_bytes.ensures
