use Rattle.std.proofs.Common.{◌≡◌, drop}
use Rattle.vortex_dtype_core.specs.View.{variants_of}
use Rattle.vortex_scalar_core.specs.Scalar.{scalar_type}
use Rattle.vortex_scalar_builders.specs.nested.Children.{is_choice}
use Rattle.vortex_scalar_builders.proofs.nested.children.is_choice.Given as goal

abbrev pub invariant-loop-variant : goal.invariant-loop-variant
invariant-loop-variant l = is_choice (variants_of (drop l.variant-index l.variants)) l.tag (scalar_type l.child) ≡ is_choice (variants_of l.variants) l.tag (scalar_type l.child)
