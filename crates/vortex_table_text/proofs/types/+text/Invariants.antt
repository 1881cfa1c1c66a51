use Rattle.std.proofs.Common.{◌≡◌, drop}
use Rattle.vortex_dtype_core.specs.View.{type_of, fields_of}
use Rattle.vortex_dtype_core.proofs.Sizes.{type_size, fields_size}
use Rattle.vortex_table_text.specs.Types.{have_texts}
use Rattle.vortex_table_text.proofs.types.+text.Given as goal

abbrev pub decreases-has_text : goal.decreases-has_text
decreases-has_text l = type_size (type_of l.dtype.now)

abbrev pub decreases-have_texts : goal.decreases-have_texts
decreases-have_texts l = fields_size (fields_of l.fields.now)

abbrev pub invariant-have_texts-loop-field : goal.invariant-have_texts-loop-field
invariant-have_texts-loop-field l = have_texts (fields_of (drop l.field-index l.fields)) ≡ have_texts (fields_of l.fields)
