use Rattle.std.proofs.Common.{◌≡◌, drop}
use Rattle.vortex_dtype_core.specs.View.{type_of, fields_of}
use Rattle.vortex_dtype_fields.specs.Widths.{are_fixed}
use Rattle.vortex_dtype_core.proofs.Sizes.{type_size, fields_size}
use Rattle.vortex_dtype_fields.proofs.widths.+fixed.Given as goal

abbrev pub decreases-has_fixed_width : goal.decreases-has_fixed_width
decreases-has_fixed_width l = type_size (type_of l.dtype.now)

abbrev pub decreases-have_fixed_widths : goal.decreases-have_fixed_widths
decreases-have_fixed_widths l = fields_size (fields_of l.fields.now)

abbrev pub invariant-have_fixed_widths-loop-field : goal.invariant-have_fixed_widths-loop-field
invariant-have_fixed_widths-loop-field l = are_fixed (fields_of (drop l.field-index l.fields)) ≡ are_fixed (fields_of l.fields)
