use Rattle.std.proofs.Common.{rules, true, map, FitsSigned, refl}
use Rattle.std.specs.Int.{w128}
use Rattle.std.proofs.lemmas.Int.{to_z-of_z}
use Rattle.vortex_model.proofs.Lists.{number_at}
use Rattle.vortex_arrays_dictionary.proofs.ExtremeLemmas.{one_counts}
use Rattle.vortex_arrays_dictionary.proofs.extremes.all_extremes.Goals as goal

pub loop-i-preserved : goal.loop-i-preserved
loop-i-preserved g c =
    let low : FitsSigned w128 c.min-least.result = search rules in
    let high : FitsSigned w128 c.max-greatest.result = search rules in
    let here = number_at g.T.Sealed.integer c.args.items.now c.loop-i.i c.index-items-i.result c.get-number.result c.loop-i-test.true c.index-items-i.is c.get-number.ensures.number in
    let more = one_counts (λ _. true) (map g.T.Sealed.integer c.args.items.now) c.loop-i.i _ _ c.get-number.result c.loop-i.invariant here refl in
    let there : FitsSigned w128 c.get-number.result = search rules in
    rw (to_z-of_z w128 c.min-least.result low, to_z-of_z w128 c.max-greatest.result high, c.min-least.ensures.value, c.max-greatest.ensures.value, to_z-of_z w128 c.get-number.result there) more
