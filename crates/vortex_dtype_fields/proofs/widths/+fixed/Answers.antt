use Rattle.std.proofs.lemmas.Grind.{common_steps}
use Rattle.std.proofs.Common.{◌≡◌, ◌<◌, arith, sym}
use Rattle.vortex_dtype_core.specs.View.{type_of, fields_of}
use Rattle.vortex_dtype_fields.proofs.Counted.{not_fixed, still_fixed}
use Rattle.vortex_dtype_core.proofs.Sizes.{type_size, fields_size, field_smaller, levels}
use borrow.Author.Rules.{get_or_read}
use Rattle.vortex_dtype_fields.proofs.widths.+fixed.Goals as goal

pub have_fixed_widths-has_fixed_width-requires : goal.have_fixed_widths-has_fixed_width-requires
have_fixed_widths-has_fixed_width-requires t c =
    let e : type_size (type_of c.field-item.result.dtype) < fields_size (fields_of c.args.fields.now) = field_smaller c.args.fields.now c.loop-field.field-index c.field-item.result c.loop-field-test.true c.field-item.is in
    let d : fields_size (fields_of c.args.fields.now) ≡ t = c.decreases in
    (omega (arith, e, d), tt)

pub have_fixed_widths-returns-then-not-has_fixed_width : goal.have_fixed_widths-returns-then-not-has_fixed_width
have_fixed_widths-returns-then-not-has_fixed_width t c = not_fixed c.args.fields.now c.loop-field.field-index c.field-item.result c.loop-field-test.true c.field-item.is (sym c.if-not-has_fixed_width.ensures) c.loop-field.invariant

pub have_fixed_widths-loop-field-preserved : goal.have_fixed_widths-loop-field-preserved
have_fixed_widths-loop-field-preserved t c = still_fixed c.args.fields.now c.loop-field.field-index c.field-item.result c.loop-field-test.true c.field-item.is (sym c.if-not-has_fixed_width.ensures) c.loop-field.invariant

pub has_fixed_width-returns-in-FixedSizeList : goal.has_fixed_width-returns-in-FixedSizeList
has_fixed_width-returns-in-FixedSizeList t c = grind (arith, levels, get_or_read)

pub has_fixed_width-returns-in-Struct : goal.has_fixed_width-returns-in-Struct
has_fixed_width-returns-in-Struct t c = grind (arith, levels)

pub has_fixed_width-returns-in-Extension : goal.has_fixed_width-returns-in-Extension
has_fixed_width-returns-in-Extension t c = grind (arith, levels, get_or_read)

pub has_fixed_width-returns-in-Map : goal.has_fixed_width-returns-in-Map
has_fixed_width-returns-in-Map t c = grind (arith, levels)

pub has_fixed_width-returns-in-Map-2 : goal.has_fixed_width-returns-in-Map-2
has_fixed_width-returns-in-Map-2 t c = grind (arith, levels)

pub has_fixed_width-returns-in-Utf8-3 : goal.has_fixed_width-returns-in-Utf8-3
has_fixed_width-returns-in-Utf8-3 t c = grind (arith, levels)

pub has_fixed_width-returns-in-Null-3 : goal.has_fixed_width-returns-in-Null-3
has_fixed_width-returns-in-Null-3 t c = grind (arith, levels)

pub have_fixed_widths-loop-field-init : goal.have_fixed_widths-loop-field-init
have_fixed_widths-loop-field-init t c = grind (arith, levels)

pub have_fixed_widths-offset_bounds-fields-field-index : goal.have_fixed_widths-offset_bounds-fields-field-index
have_fixed_widths-offset_bounds-fields-field-index t c = grind (arith, levels)

pub have_fixed_widths-loop-field-smaller : goal.have_fixed_widths-loop-field-smaller
have_fixed_widths-loop-field-smaller t c = grind (arith, levels, get_or_read, c.well_formed)

pub have_fixed_widths-returns : goal.have_fixed_widths-returns
have_fixed_widths-returns t c = grind (arith, common_steps)
