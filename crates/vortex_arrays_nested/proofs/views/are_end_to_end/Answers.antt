use Rattle.std.proofs.Common.{sym, ap, ◌∙◌}
use Rattle.vortex_arrays_buffer.specs.PrimitiveBuffers.{kind_of_numbers, integers_of}
use Rattle.vortex_arrays_core.specs.LayoutOf.{layout_of, valid_of}
use Rattle.vortex_arrays_nested.proofs.ReachLemmas.{numbers_lie, numbers_end}
use Rattle.vortex_arrays_nested.proofs.views.are_end_to_end.Goals as goal

pub numbers_follow-requires-clause-views : goal.numbers_follow-requires-clause-views
numbers_follow-requires-clause-views c =
    let mine = c.in-Primitive.mine in
    let theirs = c.in-Primitive-layout.theirs in
    numbers_lie c.args.count c.args.offsets.now c.args.sizes.now (kind_of_numbers mine) (kind_of_numbers theirs) (integers_of mine) (integers_of theirs) (valid_of c.in-Primitive.field-1) (valid_of c.in-Primitive-layout.field-1) c.requires.offsets c.requires.sizes (ap layout_of (sym c.in-Primitive.is) ∙ c.layout.ensures.layout) (ap layout_of (sym c.in-Primitive-layout.is) ∙ c.layout-in-Primitive.ensures.layout) c.requires.views

pub returns-in-Primitive-layout : goal.returns-in-Primitive-layout
returns-in-Primitive-layout c =
    let mine = c.in-Primitive.mine in
    let theirs = c.in-Primitive-layout.theirs in
    numbers_end c.args.offsets.now c.args.sizes.now (kind_of_numbers mine) (kind_of_numbers theirs) (integers_of mine) (integers_of theirs) (valid_of c.in-Primitive.field-1) (valid_of c.in-Primitive-layout.field-1) c.numbers_follow.result c.requires.offsets c.requires.sizes (ap layout_of (sym c.in-Primitive.is) ∙ c.layout.ensures.layout) (ap layout_of (sym c.in-Primitive-layout.is) ∙ c.layout-in-Primitive.ensures.layout) c.numbers_follow.ensures
