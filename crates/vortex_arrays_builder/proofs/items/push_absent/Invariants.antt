use Rattle.std.proofs.Common.{◌≡◌, ◌++◌, map, replicate}
use Rattle.vortex_model.specs.Content.{raw_null}
use Rattle.vortex_scalar_value.specs.View.{raw_at}
use Rattle.vortex_arrays_builder.proofs.items.push_absent.Given as goal

abbrev pub invariant-loop : goal.invariant-loop
invariant-loop l = map raw_at l.all.items ≡ map raw_at l.fn.all.items ++ replicate l.counter raw_null
