use Rattle.std.proofs.Common.{◌≡◌, Some}
use Rattle.vortex_scalar_value.specs.View.{raw_of, raws_in}
use Rattle.vortex_scalar_convert.specs.defaults.Zero.{times}
use Rattle.vortex_scalar_convert.proofs.defaults.zero.copies_of.Given as goal

abbrev pub invariant-loop : goal.invariant-loop
invariant-loop l = times l.counter (Some (raw_of l.value)) ≡ Some (raws_in l.copies.items)
