use Rattle.std.proofs.Common.{rules, ◌≡◌, ◌<◌, ◌∙◌, length, sym, ap, subst}
use Rattle.std.proofs.lemmas.Result.{IfOk-weaker}
use Rattle.vortex_arrays_model.specs.Layout.{bools, required, by_array, len_of}
use Rattle.vortex_arrays_model.specs.Column.{IsValidInBoth}
use Rattle.vortex_arrays_model.proofs.PushLemmas.{meets_arrays}
use Rattle.vortex_arrays_core.proofs.Picked.{bits_met}
use Rattle.vortex_arrays_core.proofs.validity.true_in_both.Goals as goal

pub returns : goal.returns
returns c = IfOk-weaker c.of_bools-2.result _ _ (λ r is. subst (λ x. IsValidInBoth (by_array c.args.mine.now) (by_array c.args.theirs.now) (by_array x) (len_of c.args.mine.now)) (sym is)
    (meets_arrays c.args.mine.now c.args.theirs.now c.in_ok-bits.bits (len_of c.args.mine.now) (c.in_ok-bits.ensures.count ∙ c.len.ensures.count) (λ i l. search (rules, c.in_ok-bits.ensures.bits i (subst (λ k. i < k) (sym c.len.ensures.count) l))))) c.of_bools-2.ensures

pub returns-in-Bool-default-NonNullable-layout : goal.returns-in-Bool-default-NonNullable-layout
returns-in-Bool-default-NonNullable-layout c =
    let ours = c.in-Bool-default-NonNullable.ours in
    let others = c.in-Bool-default-NonNullable-layout.others in
    let mine : c.args.mine.now ≡ bools ours required = search rules in
    let theirs : c.args.theirs.now ≡ bools others required = search rules in
    let many : length others ≡ length ours = sym (ap len_of theirs) ∙ c.requires ∙ ap len_of mine in
    IfOk-weaker c.of_bools.result _ _ (λ both is. bits_met c.args.mine.now c.args.theirs.now both ours others c.in_ok-and.field-0 mine theirs many is c.in_ok-and.ensures) c.of_bools.ensures
