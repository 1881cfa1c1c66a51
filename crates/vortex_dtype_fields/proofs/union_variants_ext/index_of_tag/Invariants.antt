use Rattle.std.proofs.Common.{◌≡◌, drop}
use Rattle.vortex_dtype_core.specs.View.{variants_of}
use Rattle.vortex_dtype_fields.specs.Records.{tag_position}
use Rattle.vortex_dtype_fields.proofs.Choices.{tagged_from}
use Rattle.vortex_dtype_fields.proofs.union_variants_ext.index_of_tag.Given as goal

abbrev pub invariant-loop-place : goal.invariant-loop-place
invariant-loop-place l = tagged_from l.place (variants_of (drop l.place l.variants)) l.fn.tag ≡ tag_position (variants_of l.variants) l.fn.tag
