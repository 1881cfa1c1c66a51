use Rattle.std.proofs.Common.{refl, sym}
use Rattle.vortex_arrays_buffer.proofs.ByteLemmas.{sixteen_are}
use Rattle.vortex_arrays_buffer.proofs.bit.sixteen_bits.Goals as goal

pub returns : goal.returns
returns c = sym (sixteen_are c.args.bytes.now c.args.k _ _ refl refl)
