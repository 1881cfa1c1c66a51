use Rattle.std.proofs.Common.{rules}
use Rattle.vortex_arrays_buffer.proofs.Built.{made_of}
use Rattle.vortex_arrays_parts.proofs.RowLemmas.{bits_told}
use Rattle.vortex_arrays_parts.proofs.build.present_bits.Goals as goal

pub returns : goal.returns
returns c = made_of c.collect_bool.result _ _ _ c.collect_bool.ensures.count c.collect_bool.ensures.bits (λ b count bits. bits_told c.args.values.now b count (λ i l. search (rules, bits i l)))
