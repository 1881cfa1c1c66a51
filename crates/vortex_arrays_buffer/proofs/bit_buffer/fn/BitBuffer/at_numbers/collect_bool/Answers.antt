use Rattle.std.proofs.Common.{rules, ◌≡◌, true, FitsSigned, subst, ap, sym, ◌+◌, ◌∙◌}
use Rattle.std.specs.Int.{w128}
use Rattle.std.specs.Prelude.{unsigned_abs}
use Rattle.std.proofs.lemmas.Int.{to_z-of_z}
use Rattle.vortex_model.proofs.Lists.{number_at}
use Rattle.vortex_arrays_buffer.specs.Bits.{bit_of, bits_of}
use Rattle.vortex_arrays_buffer.specs.Places.{IsPlace, bit_at_number}
use Rattle.vortex_arrays_buffer.proofs.BitLemmas.{bit_count}
use Rattle.vortex_arrays_buffer.proofs.PlaceLemmas.{bit_there, no_bit_there}
use Rattle.vortex_arrays_buffer.proofs.bit_buffer.fn.BitBuffer.at_numbers.collect_bool.Goals as goal

pub returns-then-is_within : goal.returns-then-is_within
returns-then-is_within g c =
    let fits : FitsSigned w128 c.get-number.result = search rules in
    let same = to_z-of_z w128 c.get-number.result fits in
    let at = number_at g.T.Sealed.integer c.captures.numbers.now c.args.i c.index-numbers-i.result c.get-number.result c.requires.number c.index-numbers-i.is c.get-number.ensures.number in
    bit_there c.captures.bytes.now c.captures.start c.captures.len c.get-number.result c.bit.result (subst (IsPlace c.captures.len) same (c.is_within.ensures.0 c.if-is_within.true)) (c.bit.ensures ∙ ap (λ z. bit_of c.captures.bytes.now (c.captures.start + unsigned_abs z)) same)
    ∙ ap (bit_at_number (bits_of c.captures.bytes.now c.captures.start c.captures.len)) at

pub returns-else-is_within : goal.returns-else-is_within
returns-else-is_within g c =
    let fits : FitsSigned w128 c.get-number.result = search rules in
    let same = to_z-of_z w128 c.get-number.result fits in
    let at = number_at g.T.Sealed.integer c.captures.numbers.now c.args.i c.index-numbers-i.result c.get-number.result c.requires.number c.index-numbers-i.is c.get-number.ensures.number in
    no_bit_there (bits_of c.captures.bytes.now c.captures.start c.captures.len) c.captures.len c.get-number.result c.is_within.result (bit_count c.captures.bytes.now c.captures.start c.captures.len) (λ h. let t : c.is_within.result ≡ true = c.is_within.ensures.1 (subst (IsPlace c.captures.len) (sym same) h) in absurd (cc (t, c.if-is_within.false))) c.if-is_within.false
    ∙ ap (bit_at_number (bits_of c.captures.bytes.now c.captures.start c.captures.len)) at
