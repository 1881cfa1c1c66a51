use Rattle.std.proofs.Common.{◌≡◌, ◌+◌, ◌-◌, ◌*◌, ◌/◌, count_by, ap, ◌∙◌, arith}
use Rattle.vortex_arrays_buffer.specs.Bits.{bits_of}
use Rattle.vortex_arrays_buffer.proofs.Counts.{counted_in_turn}
use Rattle.vortex_arrays_buffer.proofs.bit_buffer.BitBuffer.true_count.Goals as goal

pub returns : goal.returns
returns c =
    let start = c.self.inside.start in
    let many : start + c.self.inside.len - start ≡ c.self.inside.len = omega arith in
    counted_in_turn c.as_slice-bytes.result.now start (8 * c.div_ceil-first.result) (8 * ((start + c.self.inside.len) / 8 - c.div_ceil-first.result)) (8 * ((start + c.self.inside.len) / 8)) (start + c.self.inside.len)
    c.count_bits-before.result c.count_bytes-inside.result c.count_bits-behind.result
    (omega arith) (omega arith) (omega arith) c.count_bits-before.ensures.count c.count_bytes-inside.ensures.count c.count_bits-behind.ensures.count
    ∙ ap (count_by (λ b. b)) (ap (bits_of c.as_slice-bytes.result.now start) many ∙ ap (λ bytes. bits_of bytes start c.self.inside.len) c.as_slice-bytes.ensures ∙ c.self.view_is)
