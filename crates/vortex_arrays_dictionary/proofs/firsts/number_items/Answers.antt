use Rattle.std.proofs.Common.{pos, map, sym, ap, ◌∙◌}
use Rattle.std.proofs.lemmas.Result.{IfOk-weaker}
use Rattle.vortex_arrays_buffer.specs.PrimitiveBuffers.{integers_of}
use Rattle.vortex_arrays_dictionary.proofs.ColumnLemmas.{items_numbered}
use Rattle.vortex_arrays_dictionary.proofs.firsts.number_items.Goals as goal

pub returns-in-U8 : goal.returns-in-U8
returns-in-U8 c =
    IfOk-weaker c.number_keys.result _ _
    (λ made h. items_numbered (integers_of c.args.items.now) c.as_slice.result.now c.args.present.now made.places.items made.numbers.items (ap integers_of c.in-U8.is ∙ ap (map pos) (sym c.as_slice.ensures)) h)
    c.number_keys.ensures

pub returns-in-U16 : goal.returns-in-U16
returns-in-U16 c =
    IfOk-weaker c.number_keys-in-U16.result _ _
    (λ made h. items_numbered (integers_of c.args.items.now) c.as_slice-in-U16.result.now c.args.present.now made.places.items made.numbers.items (ap integers_of c.in-U16.is ∙ ap (map pos) (sym c.as_slice-in-U16.ensures)) h)
    c.number_keys-in-U16.ensures

pub returns-in-U32 : goal.returns-in-U32
returns-in-U32 c =
    IfOk-weaker c.number_keys-in-U32.result _ _
    (λ made h. items_numbered (integers_of c.args.items.now) c.as_slice-in-U32.result.now c.args.present.now made.places.items made.numbers.items (ap integers_of c.in-U32.is ∙ ap (map pos) (sym c.as_slice-in-U32.ensures)) h)
    c.number_keys-in-U32.ensures

pub returns-in-U64 : goal.returns-in-U64
returns-in-U64 c =
    IfOk-weaker c.number_keys-in-U64.result _ _
    (λ made h. items_numbered (integers_of c.args.items.now) c.as_slice-in-U64.result.now c.args.present.now made.places.items made.numbers.items (ap integers_of c.in-U64.is ∙ ap (map pos) (sym c.as_slice-in-U64.ensures)) h)
    c.number_keys-in-U64.ensures
