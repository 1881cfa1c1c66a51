use Rattle.std.proofs.Common.{◌+◌, ◌-◌, ◌*◌, ◌/◌, length, take, drop, ap, ◌∙◌, arith}
use Rattle.std.proofs.lemmas.Result.{IfOk-weaker}
use Rattle.vortex_arrays_buffer.specs.Bits.{bits_of}
use Rattle.vortex_arrays_buffer.proofs.BitMoves.{has_room, has_bits, part_packed, part_has_room}
use Rattle.vortex_arrays_buffer.proofs.bit_buffer.BitBuffer.packed.Goals as goal

pub returns-then-self-ne0-clause-room : goal.returns-then-self-ne0-clause-room
returns-then-self-ne0-clause-room c = IfOk-weaker c.from_vec.result _ _ (λ b is. has_room c.self.inside.bytes c.self.inside.start c.self.inside.len (8 * length b) c.args.self.now c.self.view_is (omega (arith, ap length is, c.in_ok-bytes.ensures.room))) c.from_vec.ensures

pub returns-then-self-ne0-clause-bits : goal.returns-then-self-ne0-clause-bits
returns-then-self-ne0-clause-bits c = IfOk-weaker c.from_vec.result _ _ (λ b is. has_bits c.self.inside.bytes c.in_ok-bytes.bytes.items b c.self.inside.start c.self.inside.len c.args.self.now c.self.view_is is (c.in_ok-bytes.ensures.bits ∙ ap (λ l. bits_of l c.self.inside.start c.self.inside.len) c.as_slice.ensures)) c.from_vec.ensures

pub returns-clause-room : goal.returns-clause-room
returns-clause-room c = IfOk-weaker c.slice.result _ _ (λ b is. has_room c.self.inside.bytes c.self.inside.start c.self.inside.len (8 * length b) c.args.self.now c.self.view_is (omega (arith, ap length is, part_has_room c.self.inside.bytes c.self.inside.len (c.self.inside.start / 8) c.div_ceil.result (omega arith) (omega arith)))) c.slice.ensures

pub returns-clause-bits : goal.returns-clause-bits
returns-clause-bits c =
    let first : _ = c.self.inside.start / 8 in
    let part : _ = take (first + c.div_ceil.result - first) (drop first c.self.inside.bytes) in
    IfOk-weaker c.slice.result _ _ (λ b is. has_bits c.self.inside.bytes part b c.self.inside.start c.self.inside.len c.args.self.now c.self.view_is is (part_packed c.self.inside.bytes c.self.inside.start c.self.inside.len first c.div_ceil.result (omega arith) (omega arith) (omega arith))) c.slice.ensures
