use Rattle.std.proofs.Common.{rules, arith, ◌∙◌, subst, ℤ, ◌<◌, length, map, FitsSigned}
use Rattle.std.specs.Prelude.{unsigned_abs}
use Rattle.std.specs.Int.{IsNonNegative, w128}
use Rattle.std.proofs.lemmas.Int.{to_z-of_z}
use Rattle.std.proofs.lemmas.List.{length-map}
use Rattle.vortex_model.proofs.Lists.{number_at}
use Rattle.vortex_arrays_view.proofs.Counted.{counted_more, counted_refused}
use Rattle.vortex_arrays_view.proofs.lengths.counts.Goals as goal

pub returns-in_default-clause-refused : goal.returns-in_default-clause-refused
returns-in_default-clause-refused g c =
    let l : c.loop-i.i < length (map g.P.Sealed.integer c.args.lengths.now) = omega (arith, length-map c.args.lengths.now g.P.Sealed.integer, c.loop-i-test.true) in
    let fits : FitsSigned w128 c.get.result = search rules in
    let over = subst (λ (z : ℤ). IsNonNegative z → c.loop-i.left < unsigned_abs z) (to_z-of_z w128 c.get.result fits) c.in_default.ensures.refused in
    counted_refused (map g.P.Sealed.integer c.args.lengths.now) c.loop-i.i c.loop-i.counts.items c.loop-i.left c.args.total c.get.result c.loop-i.invariant l
    (number_at g.P.Sealed.integer c.args.lengths.now c.loop-i.i c.index-lengths-i.result c.get.result c.loop-i-test.true c.index-lengths-i.is c.get.ensures.number) over

pub loop-i-preserved : goal.loop-i-preserved
loop-i-preserved g c =
    let l : c.loop-i.i < length (map g.P.Sealed.integer c.args.lengths.now) = omega (arith, length-map c.args.lengths.now g.P.Sealed.integer, c.loop-i-test.true) in
    let fits : FitsSigned w128 c.get.result = search rules in
    counted_more (map g.P.Sealed.integer c.args.lengths.now) c.loop-i.i c.loop-i.counts.items c.loop-i.left c.args.total c.get.result c.in-Some.count c.loop-i.invariant l
    (number_at g.P.Sealed.integer c.args.lengths.now c.loop-i.i c.index-lengths-i.result c.get.result c.loop-i-test.true c.index-lengths-i.is c.get.ensures.number) (c.in-Some.ensures.count.0 ∙ to_z-of_z w128 c.get.result fits) c.in-Some.ensures.count.1
