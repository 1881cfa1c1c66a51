use Rattle.std.proofs.Common.{◌-◌, ◌*◌}
use Rattle.vortex_arrays_buffer.specs.Bits.{bits_of}
use Rattle.vortex_arrays_buffer.specs.Places.{AddsPlaces}
use Rattle.vortex_arrays_buffer.proofs.places.place_bytes.Given as goal

abbrev pub invariant-loop-k : goal.invariant-loop-k
invariant-loop-k l = AddsPlaces l.fn.places l.n (8 * l.first - l.origin) (bits_of l.bytes (8 * l.first) (8 * l.k)) l.places l.next
