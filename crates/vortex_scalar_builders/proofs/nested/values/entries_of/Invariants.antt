use Rattle.std.proofs.Common.{◌≡◌, ◌++◌, map}
use Rattle.std.specs.Vec.Iter.{into_iter_items}
use Rattle.vortex_scalar_value.specs.View.{raw_in}
use Rattle.vortex_scalar_builders.proofs.nested.Moves.{raw_of_entry}
use Rattle.vortex_scalar_builders.proofs.nested.values.entries_of.Given as goal

abbrev pub invariant-loop-key : goal.invariant-loop-key
invariant-loop-key l = map raw_in l.values.items ++ map raw_of_entry (into_iter_items l.key-iterator) ≡ map raw_of_entry l.fn.entries.items
