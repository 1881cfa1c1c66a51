use Rattle.std.proofs.Common.{◌/◌, ap, sym, ◌∙◌}
use Rattle.vortex_dtype_ptype.specs.View.{number_kind_of}
use Rattle.vortex_arrays_core.specs.LayoutOf.{valid_of}
use Rattle.vortex_arrays_builder.proofs.IntegerLemmas.{rest_fault}
use Rattle.vortex_arrays_builder.proofs.primitive_array_bytes.PrimitiveArrayPrimitiveArrayBytes.from_byte_buffer.Goals as goal

pub returns-then-rows-width-clause-refused : goal.returns-then-rows-width-clause-refused
returns-then-rows-width-clause-refused c =
    let w = c.byte_width-width.result in
    rest_fault (number_kind_of c.args.ptype) c.args.buffer (valid_of c.args.validity) w (c.len.result / w) (sym c.is_int.ensures ∙ c.if-not-is_int.false) c.byte_width-width.ensures
    (ap (λ x. x / w) c.len.ensures.value) c.in_ok-check_len.ensures.fits (λ e. c.if-rows-width.true (e ∙ sym c.len-2.ensures.value))
