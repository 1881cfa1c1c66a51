use Rattle.std.proofs.Common.{◌≡◌, ◌++◌, drop}
use Rattle.vortex_dtype_core.specs.View.{variants_of}
use Rattle.vortex_dtype_fields.specs.Records.{variant_names}
use Rattle.vortex_dtype_fields.proofs.union_variants_ext.names_in.Given as goal

abbrev pub invariant-loop-variant : goal.invariant-loop-variant
invariant-loop-variant l = l.names.items ++ variant_names (variants_of (drop l.variant-index l.variants)) ≡ variant_names (variants_of l.variants)
