use Rattle.std.proofs.Common.{sym, ap, ◌∙◌}
use Rattle.vortex_arrays_buffer.specs.PrimitiveBuffers.{kind_of_numbers, integers_of}
use Rattle.vortex_arrays_core.specs.LayoutOf.{layout_of, valid_of}
use Rattle.vortex_arrays_nested.proofs.PairLemmas.{by_numbers}
use Rattle.vortex_arrays_nested.proofs.views.lie_within.Goals as goal

pub returns-in-Primitive-layout : goal.returns-in-Primitive-layout
returns-in-Primitive-layout c =
    by_numbers c.args.count c.args.offsets.now c.args.sizes.now (kind_of_numbers c.in-Primitive.mine) (kind_of_numbers c.in-Primitive-layout.theirs) (integers_of c.in-Primitive.mine) (integers_of c.in-Primitive-layout.theirs) (valid_of c.in-Primitive.field-1) (valid_of c.in-Primitive-layout.field-1) c.numbers_lie_within.result c.requires.offsets c.requires.sizes (ap layout_of (sym c.in-Primitive.is) ∙ c.layout.ensures.layout) (ap layout_of (sym c.in-Primitive-layout.is) ∙ c.layout-in-Primitive.ensures.layout) c.numbers_lie_within.ensures
