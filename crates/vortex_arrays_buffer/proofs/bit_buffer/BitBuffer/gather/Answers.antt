use Rattle.std.proofs.Common.{rules, length, refl}
use Rattle.vortex_arrays_buffer.proofs.Built.{made_of, chosen}
use Rattle.vortex_arrays_buffer.proofs.bit_buffer.BitBuffer.gather.Goals as goal

pub returns : goal.returns
returns c = made_of c.collect_bool.result _ _ _ c.collect_bool.ensures.count c.collect_bool.ensures.bits (λ b count bits. chosen c.args.self.now b c.args.places.now (length c.args.places.now) refl count (λ i l. search (rules, bits i l)))
