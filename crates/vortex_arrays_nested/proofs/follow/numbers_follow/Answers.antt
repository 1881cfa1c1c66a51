use Rattle.std.proofs.Common.{pos, map, sym, ap, ◌∙◌}
use Rattle.vortex_model.specs.LogicalType.{u8, u16, u32, u64}
use Rattle.vortex_arrays_buffer.specs.PrimitiveBuffers.{kind_of_numbers, integers_of}
use Rattle.vortex_arrays_model.specs.Layout.{numbers, required}
use Rattle.vortex_arrays_nested.proofs.ReachLemmas.{same_follow}
use Rattle.vortex_arrays_nested.proofs.follow.numbers_follow.Goals as goal

pub returns-in-U8 : goal.returns-in-U8
returns-in-U8 c = same_follow u8 (kind_of_numbers c.args.offsets.now) (map pos c.as_slice.result.now) (integers_of c.args.offsets.now) (numbers (kind_of_numbers c.args.sizes.now) (integers_of c.args.sizes.now) required) c.items_follow.result (ap kind_of_numbers (sym c.in-U8.is)) (ap (map pos) c.as_slice.ensures ∙ ap integers_of (sym c.in-U8.is)) c.items_follow.ensures

pub returns-in-U16 : goal.returns-in-U16
returns-in-U16 c = same_follow u16 (kind_of_numbers c.args.offsets.now) (map pos c.as_slice-in-U16.result.now) (integers_of c.args.offsets.now) (numbers (kind_of_numbers c.args.sizes.now) (integers_of c.args.sizes.now) required) c.items_follow-in-U16.result (ap kind_of_numbers (sym c.in-U16.is)) (ap (map pos) c.as_slice-in-U16.ensures ∙ ap integers_of (sym c.in-U16.is)) c.items_follow-in-U16.ensures

pub returns-in-U32 : goal.returns-in-U32
returns-in-U32 c = same_follow u32 (kind_of_numbers c.args.offsets.now) (map pos c.as_slice-in-U32.result.now) (integers_of c.args.offsets.now) (numbers (kind_of_numbers c.args.sizes.now) (integers_of c.args.sizes.now) required) c.items_follow-in-U32.result (ap kind_of_numbers (sym c.in-U32.is)) (ap (map pos) c.as_slice-in-U32.ensures ∙ ap integers_of (sym c.in-U32.is)) c.items_follow-in-U32.ensures

pub returns-in-U64 : goal.returns-in-U64
returns-in-U64 c = same_follow u64 (kind_of_numbers c.args.offsets.now) (map pos c.as_slice-in-U64.result.now) (integers_of c.args.offsets.now) (numbers (kind_of_numbers c.args.sizes.now) (integers_of c.args.sizes.now) required) c.items_follow-in-U64.result (ap kind_of_numbers (sym c.in-U64.is)) (ap (map pos) c.as_slice-in-U64.ensures ∙ ap integers_of (sym c.in-U64.is)) c.items_follow-in-U64.ensures
