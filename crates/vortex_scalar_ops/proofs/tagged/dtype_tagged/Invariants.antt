use Rattle.std.proofs.Common.{◌≡◌, drop}
use Rattle.vortex_dtype_core.specs.View.{variants_of}
use Rattle.vortex_scalar_ops.specs.Tagged.{type_under}
use Rattle.vortex_scalar_ops.proofs.tagged.dtype_tagged.Given as goal

abbrev pub invariant-loop-variant : goal.invariant-loop-variant
invariant-loop-variant l = type_under (variants_of (drop l.variant-index l.variants)) l.tag ≡ type_under (variants_of l.variants) l.tag
