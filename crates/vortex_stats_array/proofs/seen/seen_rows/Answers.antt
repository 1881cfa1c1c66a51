use Rattle.std.proofs.Common.{◌≡◌, ◌∙◌, ◌+◌, ◌-◌, ◌^◌, ◌<◌, ◌∷◌, subst, arith, map}
use Rattle.std.specs.List.{range_with_len}
use Rattle.vortex_stats_array.specs.Running.{IsSeen, FitsRows}
use Rattle.vortex_stats_array.proofs.Backwards.{none_left, row_before}
use Rattle.vortex_stats_array.proofs.seen.seen_rows.Goals as goal

pub loop-i-init : goal.loop-i-init
loop-i-init g c =
    let none : 0 ≡ c.args.len - c.args.len = omega arith in (
      subst (λ n. FitsRows c.none-running.result n) none c.none-running.ensures.fits,
      λ content read. subst (IsSeen g.V.LeafValue.said c.none-running.result) (none_left content c.args.len) c.none-running.ensures.seen,
    )

pub with-running-requires-clause-nulls : goal.with-running-requires-clause-nulls
with-running-requires-clause-nulls g c =
    let few : c.args.len < 2 ^ 64 = omega arith in
    let held = c.loop-i.invariant.0.nulls in
    let behind = c.loop-i-test.true in
    omega (arith, held, few, behind)

pub with-running-requires-clause-above : goal.with-running-requires-clause-above
with-running-requires-clause-above g c =
    let few : c.args.len < 2 ^ 64 = omega arith in
    let held = c.loop-i.invariant.0.sum.above in
    let behind = c.loop-i-test.true in
    omega (arith, held, few, behind)

pub with-running-requires-clause-below : goal.with-running-requires-clause-below
with-running-requires-clause-below g c =
    let few : c.args.len < 2 ^ 64 = omega arith in
    let held = c.loop-i.invariant.0.sum.below in
    let behind = c.loop-i-test.true in
    omega (arith, held, few, behind)

pub loop-i-preserved : goal.loop-i-preserved
loop-i-preserved g c =
    let behind = c.loop-i-test.true in let within = c.loop-i.auto.i in
    let count : (c.args.len - c.loop-i.i) + 1 ≡ c.args.len - (c.loop-i.i - 1) = omega (arith, behind, within) in
    let before : c.loop-i.i - 1 < c.args.len = omega (arith, behind, within) in (
      subst (λ n. FitsRows c.with-running.result n) count (c.with-running.ensures.fits (c.args.len - c.loop-i.i) c.loop-i.invariant.0),
      λ content read. subst (IsSeen g.V.LeafValue.said c.with-running.result)
          ((λ j. read (c.loop-i.i - 1) c.row.result before c.row.ensures j ∷ map content (range_with_len c.loop-i.i (c.args.len - c.loop-i.i)))
          ∙ row_before content c.loop-i.i c.args.len behind within)
          (c.with-running.ensures.seen (map content (range_with_len c.loop-i.i (c.args.len - c.loop-i.i))) (c.loop-i.invariant.1 content read)),
    )

pub returns : goal.returns
returns g c content read =
    let over = c.loop-i-test.false in
    let start : c.loop-i.i ≡ 0 = omega (arith, over) in
    let count : c.args.len - c.loop-i.i ≡ c.args.len = omega (arith, over) in
    subst (IsSeen g.V.LeafValue.said c.loop-i.running) (λ j. map content (range_with_len (start j) (count j)))
    (c.loop-i.invariant.1 content read)
