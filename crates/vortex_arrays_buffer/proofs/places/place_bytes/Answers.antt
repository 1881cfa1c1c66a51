use Rattle.std.proofs.Common.{◌+◌, ◌-◌, ◌*◌, ◌≡◌, slice_index_or, refl, subst, arith}
use Rattle.vortex_arrays_buffer.specs.Bits.{bits_of}
use Rattle.vortex_arrays_buffer.specs.Places.{AddsPlaces}
use Rattle.vortex_arrays_buffer.proofs.Placed.{room_for_byte, placed_byte, placed_zero}
use Rattle.vortex_arrays_buffer.proofs.places.place_bytes.Goals.{then-bytes-first-ne0, else-bytes-first-ne0}
use Rattle.vortex_arrays_buffer.proofs.places.place_bytes.Goals as goal

pub place_byte-next-requires-clause-room : goal.place_byte-next-requires-clause-room
place_byte-next-requires-clause-room c =
    room_for_byte c.args.places.now c.loop-k.places c.args.n (8 * c.args.first - c.args.origin) c.loop-k.next c.args.bytes.now c.args.first c.loop-k.k c.args.count (omega arith) c.requires.room c.loop-k.invariant

pub loop-k-preserved : goal.loop-k-preserved
loop-k-preserved c = elim c.if-bytes-first-ne0.branch [
  | then-bytes-first-ne0 w ↦
      rw (w.places-is, w.next-is) (placed_byte c.args.places.now c.loop-k.places w.place_byte-next.new.places c.args.n (8 * c.args.first - c.args.origin) c.loop-k.next w.place_byte-next.result (8 * (c.args.first + c.loop-k.k) - c.args.origin) c.args.bytes.now c.args.first c.loop-k.k (omega arith) c.loop-k.invariant w.place_byte-next.ensures)
  | else-bytes-first-ne0 w ↦
      let empty : slice_index_or c.args.bytes.now (c.args.first + c.loop-k.k) 0 ≡ 0 = omega (arith, w.if-bytes-first-ne0.false) in
      rw (w.places-is, w.next-is) (placed_zero c.args.places.now c.loop-k.places c.args.n (8 * c.args.first - c.args.origin) c.loop-k.next c.args.bytes.now c.args.first c.loop-k.k (slice_index_or c.args.bytes.now (c.args.first + c.loop-k.k) 0) refl empty c.loop-k.invariant)
]

pub returns : goal.returns
returns c =
    let all : c.loop-k.k ≡ c.args.count = omega arith in
    subst (λ k. AddsPlaces c.args.places.now c.args.n (8 * c.args.first - c.args.origin) (bits_of c.args.bytes.now (8 * c.args.first) (8 * k)) c.loop-k.places c.loop-k.next) all c.loop-k.invariant
