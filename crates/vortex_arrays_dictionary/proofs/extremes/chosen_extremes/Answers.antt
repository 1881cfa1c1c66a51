use Rattle.std.proofs.Common.{rules, false, slice_index_or, map, FitsSigned, ◌∙◌, sym}
use Rattle.std.specs.Int.{w128}
use Rattle.std.proofs.lemmas.Int.{to_z-of_z}
use Rattle.vortex_model.proofs.Lists.{number_at}
use Rattle.vortex_arrays_dictionary.proofs.ExtremeLemmas.{one_counts, one_passed}
use Rattle.vortex_arrays_dictionary.proofs.extremes.chosen_extremes.Goals.{then-value, else-value}
use Rattle.vortex_arrays_dictionary.proofs.extremes.chosen_extremes.Goals as goal

pub loop-i-preserved : goal.loop-i-preserved
loop-i-preserved g c = elim c.if-value.branch [
  | then-value w ↦
      let low : FitsSigned w128 w.min-least.result = search rules in
      let high : FitsSigned w128 w.max-greatest.result = search rules in
      let there : FitsSigned w128 w.get-number.result = search rules in
      let here = number_at g.T.Sealed.integer c.args.items.now c.loop-i.i w.index-items-i.result w.get-number.result c.loop-i-test.true w.index-items-i.is w.get-number.ensures.number in
      let more = one_counts (λ i. slice_index_or c.args.bits.now i false) (map g.T.Sealed.integer c.args.items.now) c.loop-i.i _ _ w.get-number.result c.loop-i.invariant here (sym c.value.ensures ∙ w.if-value.true) in
      rw (w.least-is, w.greatest-is, to_z-of_z w128 w.min-least.result low, to_z-of_z w128 w.max-greatest.result high, w.min-least.ensures.value, w.max-greatest.ensures.value, to_z-of_z w128 w.get-number.result there) more
  | else-value w ↦ rw (w.least-is, w.greatest-is) (one_passed (λ i. slice_index_or c.args.bits.now i false) (map g.T.Sealed.integer c.args.items.now) c.loop-i.i _ _ c.loop-i.invariant (sym c.value.ensures ∙ w.if-value.false))
]
