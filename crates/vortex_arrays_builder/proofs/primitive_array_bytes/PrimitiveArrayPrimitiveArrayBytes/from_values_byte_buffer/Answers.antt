use Rattle.std.proofs.Common.{◌/◌, ap, sym, ◌∙◌}
use Rattle.vortex_dtype_ptype.specs.View.{number_kind_of}
use Rattle.vortex_arrays_core.specs.LayoutOf.{valid_of}
use Rattle.vortex_arrays_builder.proofs.IntegerLemmas.{value_rest_fault}
use Rattle.vortex_arrays_builder.proofs.primitive_array_bytes.PrimitiveArrayPrimitiveArrayBytes.from_values_byte_buffer.Goals as goal
use Rattle.vortex_arrays_builder.proofs.primitive_array_bytes.PrimitiveArrayPrimitiveArrayBytes.from_values_byte_buffer.Goals.{then-count-width-via-then-count-width, then-count-width-via-else-count-width+then-count-count_valid}

pub returns-then-count-width-clause-refused : goal.returns-then-count-width-clause-refused
returns-then-count-width-clause-refused c =
    let k = number_kind_of c.args.ptype in
    let v = valid_of c.args.validity in
    let w = c.byte_width-width.result in
    elim c.then-count-width.branch [
      | then-count-width-via-then-count-width b ↦
          value_rest_fault k c.args.values v w (c.len.result / w) c.args.rows (sym c.is_int.ensures ∙ c.if-not-is_int.false) c.byte_width-width.ensures
          (ap (λ x. x / w) c.len.ensures.value) c.in_ok-check_len.ensures.fits (λ p. b.if-count-width.true (p.0 ∙ sym c.len-2.ensures.value))
      | then-count-width-via-else-count-width+then-count-count_valid b ↦
          value_rest_fault k c.args.values v w (c.len.result / w) c.args.rows (sym c.is_int.ensures ∙ c.if-not-is_int.false) c.byte_width-width.ensures
          (ap (λ x. x / w) c.len.ensures.value) c.in_ok-check_len.ensures.fits (λ p. b.if-count-count_valid.true (p.1 ∙ sym b.count_valid.ensures))
    ]
