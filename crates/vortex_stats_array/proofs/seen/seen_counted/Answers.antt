use Rattle.std.proofs.Common.{◌≡◌, ◌∙◌, ◌+◌, ◌-◌, ◌≤◌, ◌<◌, ◌++◌, ap, subst, length, get_or, drop, replicate, arith}
use Rattle.std.specs.Prelude.{sum as total}
use Rattle.vortex_stats_array.specs.Counted.{spread}
use Rattle.vortex_stats_array.specs.Running.{IsSeen, FitsRows}
use Rattle.vortex_stats_array.proofs.Spread.{none_left, value_before, sum_before, sum_within, sum_at_end}
use Rattle.vortex_stats_array.proofs.seen.seen_counted.Goals as goal

pub loop-j-init : goal.loop-j-init
loop-j-init g c =
    let ns = c.args.counts.now.of_values.items in let m = c.args.counts.now.nulls in let n = c.len-len.result in let many = c.len-len.ensures.count in (
      subst (FitsRows c.of_nulls-running.result) (sum_at_end ns m n many) c.of_nulls-running.ensures.fits,
      λ content read. subst (IsSeen g.V.LeafValue.said c.of_nulls-running.result) (none_left ns m content n many) c.of_nulls-running.ensures.seen,
    )

pub with_many-running-requires-clause-nulls : goal.with_many-running-requires-clause-nulls
with_many-running-requires-clause-nulls g c =
    let ns = c.args.counts.now.of_values.items in let m = c.args.counts.now.nulls in let j = c.loop-j.j in
    let behind = c.loop-j-test.true in let inside = c.loop-j.auto.j in let many = c.len-len.ensures.count in let n = c.of_value-n.ensures in
    let most : j ≤ length ns = omega (arith, inside, many) in
    let sum = sum_before ns m j behind most in let few = sum_within ns m (j - 1) c.len-len.ensures.few in let held = c.loop-j.invariant.0.nulls in
    omega (arith, sum, few, held, n)

pub with_many-running-requires-clause-above : goal.with_many-running-requires-clause-above
with_many-running-requires-clause-above g c =
    let ns = c.args.counts.now.of_values.items in let m = c.args.counts.now.nulls in let j = c.loop-j.j in
    let behind = c.loop-j-test.true in let inside = c.loop-j.auto.j in let many = c.len-len.ensures.count in let n = c.of_value-n.ensures in
    let most : j ≤ length ns = omega (arith, inside, many) in
    let sum = sum_before ns m j behind most in let few = sum_within ns m (j - 1) c.len-len.ensures.few in let held = c.loop-j.invariant.0.sum.above in
    omega (arith, sum, few, held, n)

pub with_many-running-requires-clause-below : goal.with_many-running-requires-clause-below
with_many-running-requires-clause-below g c =
    let ns = c.args.counts.now.of_values.items in let m = c.args.counts.now.nulls in let j = c.loop-j.j in
    let behind = c.loop-j-test.true in let inside = c.loop-j.auto.j in let many = c.len-len.ensures.count in let n = c.of_value-n.ensures in
    let most : j ≤ length ns = omega (arith, inside, many) in
    let sum = sum_before ns m j behind most in let few = sum_within ns m (j - 1) c.len-len.ensures.few in let held = c.loop-j.invariant.0.sum.below in
    omega (arith, sum, few, held, n)

pub loop-j-preserved-then-n-gt0 : goal.loop-j-preserved-then-n-gt0
loop-j-preserved-then-n-gt0 g c =
    let ns = c.args.counts.now.of_values.items in let m = c.args.counts.now.nulls in let j = c.loop-j.j in let n = c.of_value-n.ensures in
    let behind = c.loop-j-test.true in let inside = c.loop-j.auto.j in let many = c.len-len.ensures.count in
    let most : j ≤ length ns = omega (arith, inside, many) in let before : j - 1 < length ns = omega (arith, behind, most) in (
      subst (FitsRows c.with_many-running.result) (ap (λ k. (m + total (drop j ns)) + k) n ∙ sum_before ns m j behind most) (c.with_many-running.ensures.fits (m + total (drop j ns)) c.loop-j.invariant.0),
      λ content read. subst (IsSeen g.V.LeafValue.said c.with_many-running.result)
          ((λ i. replicate (n i) (read (j - 1) c.value.result before c.value.ensures i) ++ spread (drop j ns) m content j) ∙ value_before ns m content j behind most)
          (c.with_many-running.ensures.seen (spread (drop j ns) m content j) (c.loop-j.invariant.1 content read)),
    )

pub loop-j-preserved : goal.loop-j-preserved
loop-j-preserved g c =
    let ns = c.args.counts.now.of_values.items in let m = c.args.counts.now.nulls in let j = c.loop-j.j in let n = c.of_value-n.ensures in
    let behind = c.loop-j-test.true in let inside = c.loop-j.auto.j in let many = c.len-len.ensures.count in let test = c.if-n-gt0.false in
    let most : j ≤ length ns = omega (arith, inside, many) in
    let none : 0 ≡ get_or ns (j - 1) 0 = omega (arith, test, n) in let sum = sum_before ns m j behind most in
    let same : m + total (drop j ns) ≡ m + total (drop (j - 1) ns) = omega (arith, none, sum) in (
      subst (FitsRows c.loop-j.running) same c.loop-j.invariant.0,
      λ content read. subst (IsSeen g.V.LeafValue.said c.loop-j.running)
          (ap (λ k. replicate k (content (j - 1)) ++ spread (drop j ns) m content j) none ∙ value_before ns m content j behind most) (c.loop-j.invariant.1 content read),
    )

pub returns : goal.returns
returns g c content read =
    let ns = c.args.counts.now.of_values.items in let m = c.args.counts.now.nulls in let over = c.loop-j-test.false in
    let start : c.loop-j.j ≡ 0 = omega (arith, over) in
    subst (λ j. IsSeen g.V.LeafValue.said c.loop-j.running (spread (drop j ns) m content j)) start (c.loop-j.invariant.1 content read)
