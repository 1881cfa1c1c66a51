use Rattle.std.proofs.Common.{◌≡◌, drop}
use Rattle.vortex_dtype_core.specs.View.{variants_of}
use Rattle.vortex_dtype_fields.specs.Records.{variant_position}
use Rattle.vortex_dtype_fields.proofs.Choices.{named_from}
use Rattle.vortex_dtype_fields.proofs.union_variants_ext.index_of_name.Given as goal

abbrev pub invariant-loop-place : goal.invariant-loop-place
invariant-loop-place l = named_from l.place (variants_of (drop l.place l.variants)) l.name ≡ variant_position (variants_of l.variants) l.name
