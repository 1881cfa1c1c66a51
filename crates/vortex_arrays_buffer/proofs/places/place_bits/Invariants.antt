use Rattle.std.proofs.Common.{◌-◌}
use Rattle.vortex_arrays_buffer.specs.Bits.{bits_of}
use Rattle.vortex_arrays_buffer.specs.Places.{AddsPlaces}
use Rattle.vortex_arrays_buffer.proofs.places.place_bits.Given as goal

abbrev pub invariant-loop-j : goal.invariant-loop-j
invariant-loop-j l = AddsPlaces l.fn.places l.n (l.start - l.origin) (bits_of l.bytes l.start l.j) l.places l.next
