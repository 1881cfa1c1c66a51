use Rattle.std.proofs.Common.{◌+◌, ◌-◌, ◌<◌, ◌≡◌, length, subst, arith}
use Rattle.vortex_arrays_buffer.specs.Bits.{bits_of}
use Rattle.vortex_arrays_buffer.specs.Places.{AddsPlaces}
use Rattle.vortex_arrays_buffer.proofs.Placed.{room_for_bit, placed_yes, placed_no}
use Rattle.vortex_arrays_buffer.proofs.places.place_bits.Goals.{then-bit, else-bit}
use Rattle.vortex_arrays_buffer.proofs.places.place_bits.Goals as goal

pub loop-j-preserved : goal.loop-j-preserved
loop-j-preserved c = elim c.if-bit.branch [
  | then-bit w ↦
      let room : c.loop-j.next < length c.loop-j.places = room_for_bit c.args.places.now c.loop-j.places c.args.n (c.args.start - c.args.origin) c.loop-j.next c.args.start c.loop-j.j c.args.count c.args.bytes.now c.bit.result c.loop-j-test.true c.bit.ensures w.if-bit.true c.requires.room c.loop-j.invariant in
      rw (w.places-is, w.next-is) (placed_yes c.args.places.now c.loop-j.places c.args.n (c.args.start - c.args.origin) c.loop-j.next (c.args.start + c.loop-j.j - c.args.origin) c.args.start c.loop-j.j c.args.bytes.now c.bit.result c.bit.ensures w.if-bit.true (omega arith) room c.loop-j.invariant)
  | else-bit w ↦ rw (w.places-is, w.next-is) (placed_no c.args.places.now c.loop-j.places c.args.n (c.args.start - c.args.origin) c.loop-j.next c.args.start c.loop-j.j c.args.bytes.now c.bit.result c.bit.ensures w.if-bit.false c.loop-j.invariant)
]

pub returns : goal.returns
returns c =
    let all : c.loop-j.j ≡ c.args.count = omega arith in
    subst (λ j. AddsPlaces c.args.places.now c.args.n (c.args.start - c.args.origin) (bits_of c.args.bytes.now c.args.start j) c.loop-j.places c.loop-j.next) all c.loop-j.invariant
