use Rattle.std.proofs.Common.{◌≡◌, ◌+◌, ◌*◌, take, Some}
use Rattle.vortex_dtype_core.specs.View.{type_of, fields_of, variants_of}
use Rattle.vortex_dtype_core.proofs.Sizes.{type_size, fields_size, variants_size}
use Rattle.vortex_scalar_value.specs.View.{raws_in}
use Rattle.vortex_scalar_convert.specs.defaults.Zero.{zeros_of}
use Rattle.vortex_scalar_convert.proofs.defaults.zero.+zero.Given as goal

abbrev pub decreases-zero_of : goal.decreases-zero_of
decreases-zero_of l = 2 * type_size (type_of l.dtype.now)

abbrev pub decreases-zero_list : goal.decreases-zero_list
decreases-zero_list l = 2 * type_size (type_of l.element.now) + 1

abbrev pub decreases-zero_record : goal.decreases-zero_record
decreases-zero_record l = 2 * fields_size (fields_of l.fields.now)

abbrev pub decreases-zero_choice : goal.decreases-zero_choice
decreases-zero_choice l = 2 * variants_size (variants_of l.variants.now)

abbrev pub invariant-zero_record-loop-field : goal.invariant-zero_record-loop-field
invariant-zero_record-loop-field l = zeros_of (fields_of (take l.field-index l.fields)) ≡ Some (raws_in l.zeros.items)
