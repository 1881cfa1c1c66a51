use Rattle.std.proofs.Common.{rules, ◌≡◌, map, ◌∙◌}
use Rattle.std.specs.Prelude.{bit_xor}
use Rattle.std.proofs.lemmas.Result.{IfOk-weaker}
use Rattle.vortex_arrays_buffer.proofs.BytePairs.{all_turned, turned_room}
use Rattle.vortex_arrays_buffer.proofs.bit_buffer.BitBuffer.not.Goals as goal

pub of_bytes-requires : goal.of_bytes-requires
of_bytes-requires c =
    let is : c.in_ok-bytes.bytes.items ≡ map (λ x. bit_xor x 255) c.as_slice.result.now = search rules in
    turned_room (λ x. bit_xor x 255) c.in_ok-mine.mine c.as_slice.result.now c.in_ok-bytes.bytes.items c.args.self.now c.len.result c.as_slice.ensures c.len.ensures c.in_ok-mine.ensures.room is

pub returns : goal.returns
returns c =
    let is : c.in_ok-bytes.bytes.items ≡ map (λ x. bit_xor x 255) c.as_slice.result.now = search rules in
    IfOk-weaker c.of_bytes.result _ _ (λ b e. e ∙ all_turned c.in_ok-mine.mine c.as_slice.result.now c.in_ok-bytes.bytes.items c.args.self.now c.len.result c.as_slice.ensures c.len.ensures c.in_ok-mine.ensures.room c.in_ok-mine.ensures.bits is) c.of_bytes.ensures
