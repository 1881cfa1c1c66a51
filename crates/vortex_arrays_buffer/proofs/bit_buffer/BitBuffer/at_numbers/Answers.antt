use Rattle.std.proofs.Common.{pos, length, map, get_or, ap, refl, ◌∙◌}
use Rattle.vortex_arrays_buffer.specs.Bits.{bits_of}
use Rattle.vortex_arrays_buffer.specs.Places.{bit_at_number}
use Rattle.vortex_arrays_buffer.proofs.Built.{made_of}
use Rattle.vortex_arrays_buffer.proofs.PlaceLemmas.{bits_there}
use Rattle.vortex_arrays_buffer.proofs.bit_buffer.BitBuffer.at_numbers.Goals as goal

pub returns : goal.returns
returns g c = made_of c.collect_bool.result _ _ _ c.collect_bool.ensures.count c.collect_bool.ensures.bits (λ b count bits. bits_there g.T.Sealed.integer c.args.self.now b c.args.numbers.now (length c.args.numbers.now) refl count (λ i l. bits i l ∙ ap (λ xs. bit_at_number xs (get_or (map g.T.Sealed.integer c.args.numbers.now) i (pos 0))) (ap (λ bytes. bits_of bytes c.self.inside.start c.self.inside.len) c.as_slice-bytes.ensures ∙ c.self.view_is)))
