use Rattle.std.proofs.Common.{rules, length, get_or, refl, sym, subst}
use Rattle.std.proofs.lemmas.Result.{IfOk-weaker}
use Rattle.vortex_arrays_model.specs.Layout.{by_array}
use Rattle.vortex_arrays_model.specs.Picks.{PicksValid}
use Rattle.vortex_arrays_core.proofs.Gathered.{truths_at}
use Rattle.vortex_arrays_core.proofs.gather.truths_at.Goals as goal

pub returns : goal.returns
returns c = IfOk-weaker c.of_bools-2.result _ _ (λ r is. subst (λ x. PicksValid (by_array c.args.array.now) (by_array x) (length c.args.positions.now) (λ i. get_or c.args.positions.now i 0)) (sym is)
    (truths_at c.args.array.now c.in_ok-bits.bits c.args.positions.now (length c.args.positions.now) refl c.in_ok-bits.ensures.count (λ i l. search (rules, c.in_ok-bits.ensures.bits i l)))) c.of_bools-2.ensures
