use Rattle.std.proofs.Common.{◌&&◌, ◌∙◌}
use Rattle.std.specs.Prelude.{bit_and}
use Rattle.std.proofs.lemmas.Result.{IfOk-weaker}
use Rattle.vortex_arrays_buffer.proofs.BytePairs.{both_bits, met, met_room}
use Rattle.vortex_arrays_buffer.proofs.bit_buffer.BitBuffer.and.Goals as goal

pub of_bytes-requires : goal.of_bytes-requires
of_bytes-requires c = met_room (λ p. bit_and p.0 p.1) c.in_ok-mine.mine c.in_ok-theirs.theirs c.as_slice.result.now c.as_slice-2.result.now c.in_ok-bytes.bytes.items c.args.self.now c.args.other.now c.len.result c.as_slice.ensures c.as_slice-2.ensures c.len.ensures c.requires c.in_ok-mine.ensures.room c.in_ok-theirs.ensures.room c.in_ok-bytes.ensures

pub returns : goal.returns
returns c = IfOk-weaker c.of_bytes.result _ _ (λ b is. is ∙ met bit_and (λ x y. x && y) both_bits c.in_ok-mine.mine c.in_ok-theirs.theirs c.as_slice.result.now c.as_slice-2.result.now c.in_ok-bytes.bytes.items c.args.self.now c.args.other.now c.len.result c.as_slice.ensures c.as_slice-2.ensures c.len.ensures c.requires c.in_ok-mine.ensures.room c.in_ok-theirs.ensures.room c.in_ok-mine.ensures.bits c.in_ok-theirs.ensures.bits c.in_ok-bytes.ensures) c.of_bytes.ensures
