use Rattle.std.proofs.Common.{◌∙◌, ap}
use Rattle.vortex_arrays_core.specs.LayoutOf.{valid_of}
use Rattle.vortex_arrays_buffer.specs.PrimitiveBuffers.{integers_of}
use Rattle.vortex_arrays_validity.specs.Validities.{valid_rows}
use Rattle.vortex_arrays_dictionary.proofs.ExtremeLemmas.{by_bits}
use Rattle.vortex_arrays_dictionary.proofs.extremes.extremes.Goals as goal

pub returns-in_ok-mask-in-Array : goal.returns-in_ok-mask-in-Array
returns-in_ok-mask-in-Array c =
    by_bits (valid_of c.args.validity.now) c.bit_buffer.result.now (integers_of c.args.numbers.now) c.extremes_where.result.0 c.extremes_where.result.1
    (c.bit_buffer.ensures ∙ c.in_ok-mask-in-Array.ensures ∙ ap (valid_rows (valid_of c.args.validity.now)) c.len.ensures.count) c.extremes_where.ensures
