use Rattle.std.proofs.Common.{rules, length, refl}
use Rattle.vortex_arrays_buffer.proofs.Built.{made_of}
use Rattle.vortex_arrays_buffer.proofs.Collected.{copied}
use Rattle.vortex_arrays_buffer.proofs.bit_buffer.BitBuffer.from_bools.Goals as goal

pub returns : goal.returns
returns c = made_of c.collect_bool.result _ _ _ c.collect_bool.ensures.count c.collect_bool.ensures.bits (λ b count bits. copied c.args.bits.now b (length c.args.bits.now) refl count (λ i l. search (rules, bits i l)))
