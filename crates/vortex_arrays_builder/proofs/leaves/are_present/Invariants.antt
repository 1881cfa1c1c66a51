use Rattle.std.proofs.Common.{◌≡◌, true, map, take}
use Rattle.std.specs.List.{All}
use Rattle.vortex_model.specs.LogicalType.{nullable}
use Rattle.vortex_scalar_value.specs.View.{raw_at}
use Rattle.vortex_arrays_builder.specs.Plain.{is_there}
use Rattle.vortex_arrays_builder.proofs.leaves.are_present.Given as goal

abbrev pub invariant-loop-value : goal.invariant-loop-value
invariant-loop-value l = All (λ r. is_there nullable r ≡ true) (map raw_at (take l.value-index l.values))
