use Rattle.std.proofs.Common.{◌∙◌, ◌+◌, ◌<◌, sym, ap, subst, [], length, Some, None, arith}
use Rattle.std.specs.Prelude.{sum}
use Rattle.std.specs.List.Sorted.{IsPermutation}
use Rattle.std.proofs.lemmas.List.{length-replicate, length-set, get_or_read}
use Rattle.vortex_arrays_model.specs.Layout.{pick}
use Rattle.vortex_stats_array.specs.Counted.{spread}
use Rattle.vortex_stats_array.proofs.Spread.{counted_none, none_counted, one_counted, null_counted, value_counted}
use Rattle.vortex_stats_array.proofs.counting.count.Goals.{in-Some, in-None}
use Rattle.vortex_stats_array.proofs.counting.count.Goals as goal

pub loop-i-init : goal.loop-i-init
loop-i-init g c =
    let made = c.in_ok-of_values.ensures in let n = c.args.value_count in (
      ap length made ∙ length-replicate n 0,
      ap (λ ns. 0 + sum ns) made ∙ none_counted n,
      λ codes read value. subst (λ ns. IsPermutation (spread ns 0 value 0) []) (sym made) (counted_none n value (λ i. pick (codes i) value)),
    )

pub loop-i-preserved : goal.loop-i-preserved
loop-i-preserved g c = elim c.match-code.branch [
  | in-Some w ↦
      let j = w.in-Some.j in let ns = c.loop-i.of_values.items in let less = c.loop-i-test.true in let held = c.loop-i.invariant in
      let reads = subst (λ v. g.F.Fn.post c.args.code (c.loop-i.i, tt) v) w.in-Some.is c.code.ensures in
      let within : j < length ns = subst (λ n. j < n) (sym held.0) (c.requires.within c.loop-i.i j less reads) in
      let count = ap (λ k. k + 1) (get_or_read ns j w.index_mut.result.now within w.index_mut.ensures.value 0) in
      rw (w.of_values-is, w.nulls-is) (
        length-set ns j _ ∙ held.0,
        one_counted ns c.loop-i.nulls j _ c.loop-i.i within count held.1,
        λ codes read value. value_counted ns c.loop-i.nulls value (λ i. pick (codes i) value) c.loop-i.i j _ (held.2 codes read value) within count (ap (λ d. pick d value) (read c.loop-i.i (Some j) less reads)),
      )
  | in-None w ↦
      let ns = c.loop-i.of_values.items in let less = c.loop-i-test.true in let held = c.loop-i.invariant in let before = held.1 in
      let reads = subst (λ v. g.F.Fn.post c.args.code (c.loop-i.i, tt) v) w.in-None.is c.code.ensures in
      rw (w.of_values-is, w.nulls-is) (
        held.0,
        omega (arith, before),
        λ codes read value. null_counted ns c.loop-i.nulls value (λ i. pick (codes i) value) c.loop-i.i (held.2 codes read value) (ap (λ d. pick d value) (read c.loop-i.i None less reads)),
      )
]
