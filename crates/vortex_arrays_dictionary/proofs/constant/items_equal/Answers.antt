use Rattle.std.proofs.Common.{pos, map, sym, ap, ◌∙◌}
use Rattle.vortex_arrays_buffer.specs.PrimitiveBuffers.{integers_of}
use Rattle.vortex_arrays_dictionary.proofs.ConstantLemmas.{items_same}
use Rattle.vortex_arrays_dictionary.proofs.constant.items_equal.Goals as goal

pub returns-in-U8 : goal.returns-in-U8
returns-in-U8 c =
    items_same (integers_of c.args.items.now) c.as_slice.result.now c.args.present.now c.all_equal.result
    (ap integers_of c.in-U8.is ∙ ap (map pos) (sym c.as_slice.ensures)) c.all_equal.ensures

pub returns-in-U16 : goal.returns-in-U16
returns-in-U16 c =
    items_same (integers_of c.args.items.now) c.as_slice-in-U16.result.now c.args.present.now c.all_equal-in-U16.result
    (ap integers_of c.in-U16.is ∙ ap (map pos) (sym c.as_slice-in-U16.ensures)) c.all_equal-in-U16.ensures

pub returns-in-U32 : goal.returns-in-U32
returns-in-U32 c =
    items_same (integers_of c.args.items.now) c.as_slice-in-U32.result.now c.args.present.now c.all_equal-in-U32.result
    (ap integers_of c.in-U32.is ∙ ap (map pos) (sym c.as_slice-in-U32.ensures)) c.all_equal-in-U32.ensures

pub returns-in-U64 : goal.returns-in-U64
returns-in-U64 c =
    items_same (integers_of c.args.items.now) c.as_slice-in-U64.result.now c.args.present.now c.all_equal-in-U64.result
    (ap integers_of c.in-U64.is ∙ ap (map pos) (sym c.as_slice-in-U64.ensures)) c.all_equal-in-U64.ensures
