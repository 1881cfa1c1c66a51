use Rattle.vortex_arrays_core.specs.LayoutOf.{valid_of}
use Rattle.vortex_arrays_cast.proofs.ListLemmas.{spanned}
use Rattle.vortex_arrays_cast.proofs.lists.take_all.Goals as goal

pub returns-then-span_all : goal.returns-then-span_all
returns-then-span_all c =
    λ t.
    spanned c.args.elements.now c.args.offsets.now c.args.sizes.now (valid_of c.args.validity.now) c.requires.count c.requires.follow
    (c.span_all.ensures.none c.if-span_all.true) (c.span_all.ensures.first c.if-span_all.true) (c.span_all.ensures.last c.if-span_all.true) (c.are_null_lists_empty.ensures t)
