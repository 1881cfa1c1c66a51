use Rattle.std.proofs.Common.{◌∙◌, sym}
use Rattle.vortex_arrays_core.specs.LayoutOf.{valid_of}
use Rattle.vortex_arrays_rebuild.proofs.DensityLemmas.{some_sized, bits_many}
use Rattle.vortex_arrays_rebuild.proofs.density.valid_sizes.Goals as goal

pub empty_nulls-requires : goal.empty_nulls-requires
empty_nulls-requires c =
    let read = c.in_ok-counts-in-Array.ensures in
    bits_many (valid_of c.args.validity.now) c.bit_buffer.result.now c.len-in-Array.result _
    (c.bit_buffer.ensures ∙ c.in_ok-mask-in-Array.ensures) (c.len-in-Array.ensures.count ∙ sym read.many)

pub returns-in_ok-mask-in-Array : goal.returns-in_ok-mask-in-Array
returns-in_ok-mask-in-Array c =
    some_sized c.args.sizes.now (valid_of c.args.validity.now) c.in_ok-counts-in-Array.counts.items c.empty_nulls.new.sizes.items c.bit_buffer.result.now c.len-in-Array.result
    c.in_ok-counts-in-Array.ensures c.len-in-Array.ensures.count (c.bit_buffer.ensures ∙ c.in_ok-mask-in-Array.ensures) c.empty_nulls.ensures.many c.empty_nulls.ensures.each
