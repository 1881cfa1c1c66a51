use Rattle.std.proofs.Common.{◌≡◌, drop, map}
use Rattle.vortex_dtype_core.specs.View.{type_of}
use Rattle.vortex_scalar_core.specs.Scalar.{scalar_type}
use Rattle.vortex_scalar_builders.specs.nested.Children.{all_are}
use Rattle.vortex_scalar_builders.proofs.nested.children.all_are.Given as goal

abbrev pub invariant-loop-child : goal.invariant-loop-child
invariant-loop-child l = all_are (type_of l.dtype) (map scalar_type (drop l.child-index l.children)) ≡ all_are (type_of l.dtype) (map scalar_type l.children)
