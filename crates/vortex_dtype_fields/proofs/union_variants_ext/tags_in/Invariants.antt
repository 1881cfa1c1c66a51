use Rattle.std.proofs.Common.{◌≡◌, ◌++◌, drop}
use Rattle.vortex_dtype_core.specs.View.{variants_of}
use Rattle.vortex_dtype_fields.specs.Records.{tags_of}
use Rattle.vortex_dtype_fields.proofs.union_variants_ext.tags_in.Given as goal

abbrev pub invariant-loop-variant : goal.invariant-loop-variant
invariant-loop-variant l = l.tags.items ++ tags_of (variants_of (drop l.variant-index l.variants)) ≡ tags_of (variants_of l.variants)
