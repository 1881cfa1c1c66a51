use Rattle.std.proofs.Common.{rules, ◌+◌, ◌-◌, ◌*◌, ◌/◌, ◌^◌, ◌≤◌, ◌<◌, ◌≡◌, length, slice_index_or, refl, subst, arith}
use Rattle.std.specs.Prelude.{bit_and}
use Rattle.vortex_arrays_buffer.specs.Bits.{bits_of}
use Rattle.vortex_arrays_buffer.specs.Places.{AddsPlaces}
use Rattle.vortex_arrays_buffer.proofs.Placed.{one_digit, room_for_digit, placed_digit}
use Rattle.vortex_arrays_buffer.proofs.places.place_byte.Goals as goal

pub place_bits-requires-clause-room : goal.place_bits-requires-clause-room
place_bits-requires-clause-room c = c.requires.room

pub returns-then-places-n-lt8 : goal.returns-then-places-n-lt8
returns-then-places-n-lt8 c = c.place_bits.ensures

pub bounds-places-next : goal.bounds-places-next
bounds-places-next c =
    room_for_digit c.args.places.now c.loop-j.places c.args.n (8 * c.args.k - c.args.origin) c.loop-j.next c.args.bytes.now c.args.k c.loop-j.j (omega arith) (omega arith) c.loop-j.invariant

pub overflow_add-next : goal.overflow_add-next
overflow_add-next c =
    let room : c.loop-j.next < length c.loop-j.places = room_for_digit c.args.places.now c.loop-j.places c.args.n (8 * c.args.k - c.args.origin) c.loop-j.next c.args.bytes.now c.args.k c.loop-j.j (omega arith) (omega arith) c.loop-j.invariant in
    let digit : bit_and (slice_index_or c.args.bytes.now c.args.k 0 / 2 ^ c.loop-j.j) 1 ≤ 1 = one_digit (slice_index_or c.args.bytes.now c.args.k 0) c.loop-j.j in
    search (rules, room, digit)

pub loop-j-preserved : goal.loop-j-preserved
loop-j-preserved c =
    let room : c.loop-j.next < length c.loop-j.places = room_for_digit c.args.places.now c.loop-j.places c.args.n (8 * c.args.k - c.args.origin) c.loop-j.next c.args.bytes.now c.args.k c.loop-j.j (omega arith) (omega arith) c.loop-j.invariant in
    placed_digit c.args.places.now c.loop-j.places c.args.n (8 * c.args.k - c.args.origin) c.loop-j.next (8 * c.args.k - c.args.origin + c.loop-j.j) c.args.bytes.now c.args.k c.loop-j.j
    (slice_index_or c.args.bytes.now c.args.k 0) (bit_and (slice_index_or c.args.bytes.now c.args.k 0 / 2 ^ c.loop-j.j) 1) (omega arith) refl refl refl room c.loop-j.invariant

pub returns : goal.returns
returns c =
    let all : c.loop-j.j ≡ 8 = omega arith in
    subst (λ j. AddsPlaces c.args.places.now c.args.n (8 * c.args.k - c.args.origin) (bits_of c.args.bytes.now (8 * c.args.k) j) c.loop-j.places c.loop-j.next) all c.loop-j.invariant
