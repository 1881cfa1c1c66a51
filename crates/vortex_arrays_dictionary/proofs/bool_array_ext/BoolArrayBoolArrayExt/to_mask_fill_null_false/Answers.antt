use Rattle.std.proofs.Common.{◌∙◌, ap, subst}
use Rattle.vortex_arrays_model.specs.Layout.{len_of}
use Rattle.vortex_arrays_core.specs.LayoutOf.{valid_of}
use Rattle.vortex_arrays_leaf.specs.Shapes.{IsBools}
use Rattle.vortex_arrays_dictionary.proofs.MaskLemmas.{some_null}
use Rattle.vortex_arrays_dictionary.proofs.bool_array_ext.BoolArrayBoolArrayExt.to_mask_fill_null_false.Goals as goal

pub returns-in_ok-both-in-Array : goal.returns-in_ok-both-in-Array
returns-in_ok-both-in-Array c =
    let layout : IsBools c.args.self.now = subst IsBools c.as_array.ensures.array c.as_array.ensures.layout in
    c.from_buffer-in-Array.ensures ∙ c.in_ok-both-in-Array.ensures
    ∙ some_null c.args.self.now (valid_of c.in_ok-validity.validity) c.in_ok-bits.bits c.bit_buffer.result.now c.len-len.result layout c.in_ok-validity.ensures
    (c.len-len.ensures.count ∙ ap len_of c.as_array.ensures.array) c.in_ok-bits.ensures (c.bit_buffer.ensures ∙ c.in_ok-rows-in-Array.ensures)
