use Rattle.std.proofs.Common.{◌≡◌, drop}
use Rattle.vortex_dtype_core.specs.View.{variants_of}
use Rattle.vortex_dtype_fields.specs.Records.{count_from}
use Rattle.vortex_dtype_fields.proofs.union_variants_ext.are_counted.Given as goal

abbrev pub invariant-loop-place : goal.invariant-loop-place
invariant-loop-place l = count_from l.place (variants_of (drop l.place l.variants)) ≡ count_from 0 (variants_of l.variants)
