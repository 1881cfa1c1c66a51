use Rattle.std.proofs.Common.{◌≡◌, ◌++◌, map}
use Rattle.std.specs.Vec.Iter.{into_iter_items}
use Rattle.vortex_scalar_value.specs.View.{raw_in}
use Rattle.vortex_scalar_core.specs.Scalar.{scalar_raw}
use Rattle.vortex_scalar_builders.proofs.nested.values.values_of.Given as goal

abbrev pub invariant-loop-child : goal.invariant-loop-child
invariant-loop-child l = map raw_in l.values.items ++ map scalar_raw (into_iter_items l.child-iterator) ≡ map scalar_raw l.fn.children.items
