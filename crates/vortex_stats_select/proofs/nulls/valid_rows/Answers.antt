use Rattle.std.proofs.Common.{◌≡◌, ◌∙◌, ℕ, true, map, subst}
use Rattle.std.specs.Prelude.{MatchOption}
use Rattle.std.specs.List.{range_with_len}
use Rattle.std.proofs.lemmas.Result.{IfOk-weaker}
use Rattle.vortex_arrays_model.specs.Layout.{is_valid}
use Rattle.vortex_arrays_core.specs.LayoutOf.{valid_of}
use Rattle.vortex_stats_select.proofs.NullLemmas.{all_present}
use Rattle.vortex_stats_select.proofs.nulls.valid_rows.Goals as goal

pub returns-in-None : goal.returns-in-None
returns-in-None c =
    let v = valid_of c.args.validity.now in let n = c.args.len in
    let told = subst (λ o. MatchOption o ((i : ℕ) → is_valid v i ≡ true) (λ rows. rows ≡ map (is_valid v) (range_with_len 0 n))) c.in-None.is c.in_ok-rows.ensures in
    IfOk-weaker c.all_rows.result _ _ (λ all is. is ∙ all_present v n told) c.all_rows.ensures

pub returns-in-Some : goal.returns-in-Some
returns-in-Some c =
    let v = valid_of c.args.validity.now in let n = c.args.len in
    let told = subst (λ o. MatchOption o ((i : ℕ) → is_valid v i ≡ true) (λ rows. rows ≡ map (is_valid v) (range_with_len 0 n))) c.in-Some.is c.in_ok-rows.ensures in
    IfOk-weaker c.to_bools.result _ _ (λ bools is. is ∙ told) c.to_bools.ensures
