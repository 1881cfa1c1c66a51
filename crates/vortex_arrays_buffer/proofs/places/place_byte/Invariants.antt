use Rattle.std.proofs.Common.{◌-◌, ◌*◌}
use Rattle.vortex_arrays_buffer.specs.Bits.{bits_of}
use Rattle.vortex_arrays_buffer.specs.Places.{AddsPlaces}
use Rattle.vortex_arrays_buffer.proofs.places.place_byte.Given as goal

abbrev pub invariant-loop-j : goal.invariant-loop-j
invariant-loop-j l = AddsPlaces l.fn.places l.n (8 * l.k - l.origin) (bits_of l.bytes (8 * l.k) l.j) l.places l.next
