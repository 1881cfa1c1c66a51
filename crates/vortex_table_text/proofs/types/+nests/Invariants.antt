use Rattle.std.proofs.Common.{◌≡◌, drop}
use Rattle.vortex_dtype_core.specs.View.{type_of, fields_of}
use Rattle.vortex_dtype_core.proofs.Sizes.{type_size, fields_size}
use Rattle.vortex_table_text.proofs.TypeParts.{all_nest, AreNamedFrom}
use Rattle.vortex_table_text.proofs.types.+nests.Given as goal

abbrev pub decreases-nests_within : goal.decreases-nests_within
decreases-nests_within l = type_size (type_of l.dtype.now)

abbrev pub decreases-fields_nest_within : goal.decreases-fields_nest_within
decreases-fields_nest_within l = fields_size (fields_of l.fields.now)

abbrev pub invariant-fields_nest_within-loop-field : goal.invariant-fields_nest_within-loop-field
invariant-fields_nest_within-loop-field l =
    (all_nest l.depth (drop l.field-index l.fields) ≡ all_nest l.depth l.fields) × AreNamedFrom l.fields l.field-index
