use Rattle.std.proofs.Common.{rules, ◌<◌, arith}
use Rattle.vortex_arrays_model.proofs.ReferencedLemmas.{marks}
use Rattle.vortex_arrays_nested.proofs.MarkLemmas.{item_within, item_marked}
use borrow.Author.Differences.{ints}
use Rattle.vortex_arrays_nested.proofs.referenced.items_marks.Goals as goal

pub loop-i-init : goal.loop-i-init
loop-i-init g c = grind (ints, arith, marks)

pub index_mut-requires : goal.index_mut-requires
index_mut-requires g c =
    let small : c.natural_of-place.result < c.args.count =
    item_within g.T.Sealed.kind g.T.Sealed.integer c.args.codes.now c.args.count c.loop-i.i c.natural_of-place.result c.index-codes-i.result
    c.requires c.loop-i-test.true c.index-codes-i.is c.natural_of-place.ensures in
    omega (arith, small, c.loop-i.invariant.count, c.loop-i.marks.ok.0)

pub loop-i-preserved : goal.loop-i-preserved
loop-i-preserved g c = record {
  count = search rules;
  marks = item_marked g.T.Sealed.kind g.T.Sealed.integer c.args.codes.now c.args.count c.loop-i.i c.natural_of-place.result c.index-codes-i.result
      c.requires c.loop-i-test.true c.index-codes-i.is c.natural_of-place.ensures c.args.mark c.loop-i.marks.items c.loop-i.invariant.count c.loop-i.invariant.marks;
}
