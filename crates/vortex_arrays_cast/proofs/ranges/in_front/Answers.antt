use Rattle.std.proofs.Common.{◌+◌, sym, subst, arith}
use Rattle.std.specs.List.{All}
use Rattle.vortex_model.specs.Path.{part_of}
use Rattle.vortex_arrays_cast.specs.Ranges.{IsRangeIn}
use Rattle.vortex_arrays_cast.proofs.RangeLemmas.{field_front}
use Rattle.vortex_arrays_cast.proofs.ranges.in_front.Goals as goal

pub returns-then-not-stands_in-clause-field : goal.returns-then-not-stands_in-clause-field
returns-then-not-stands_in-clause-field c = λ n f h.
    let d = c.args.depth in let index = c.args.index in
    subst (All (IsRangeIn (d + 1) n (λ i. part_of (f i) index))) (sym c.split_at.ensures.front)
    (field_front d index n c.loop-count.count f c.args.ranges.now c.loop-count.invariant h)

pub returns-clause-field : goal.returns-clause-field
returns-clause-field c = λ n f h.
    let d = c.args.depth in let index = c.args.index in
    let test = c.loop-count-test.false in let before = c.loop-count.auto.count-end in
    subst (All (IsRangeIn (d + 1) n (λ i. part_of (f i) index))) (sym c.split_at-2.ensures.front)
    (field_front d index n _ f c.args.ranges.now (λ k r l e. c.loop-count.invariant k r (omega (arith, l, test, before)) e) h)
