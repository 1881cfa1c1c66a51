use Rattle.std.proofs.Common.{◌≡◌, ◌∙◌, ap, subst, ℕ, true, ◌&&◌, length, map}
use Rattle.std.specs.Prelude.{MatchOption}
use Rattle.std.specs.List.{range_with_len, zip}
use Rattle.vortex_arrays_core.specs.LayoutOf.{valid_of}
use Rattle.vortex_arrays_model.specs.Layout.{is_valid}
use Rattle.vortex_stats_match.specs.Fronts.{match_by_head}
use Rattle.vortex_stats_select.specs.Asked.{seen}
use Rattle.vortex_stats_select.specs.Wants.{wanted_match}
use Rattle.vortex_stats_select.proofs.AskedLemmas.{seen_mapped, seen_valid}
use Rattle.vortex_stats_select.proofs.LikeLemmas.{all_liked, valid_liked}
use Rattle.vortex_stats_select.proofs.like.like_texts.Goals as goal

pub returns-in-None : goal.returns-in-None
returns-in-None c =
    let form = c.args.pattern.now in let vs = c.args.views.now in let bs = c.args.buffers.now in
    let v = valid_of c.args.validity.now in let a = c.args.asked in let w = wanted_match c.args.want c.args.negated in
    let told = subst (λ o. MatchOption o ((i : ℕ) → is_valid v i ≡ true) (λ rows. rows ≡ map (is_valid v) (range_with_len 0 (length vs)))) c.in-None.is c.in_ok-valid.ensures in
    let matches = c.in_ok-mask.ensures ∙ (λ i. seen a (map (λ x. match_by_head (c.as_bytes.ensures.value i) x bs) vs)) in
    ap (seen a) (c.in_ok-mask-2.ensures ∙ ap (map w) matches) ∙ seen_mapped w a (map (λ x. match_by_head form x bs) vs)
    ∙ ap (seen a) (all_liked c.args.want c.args.negated form c.utf8.pattern c.requires.literal vs bs v c.requires.sound told)

pub returns-in-Some : goal.returns-in-Some
returns-in-Some c =
    let form = c.args.pattern.now in let vs = c.args.views.now in let bs = c.args.buffers.now in
    let v = valid_of c.args.validity.now in let a = c.args.asked in let w = wanted_match c.args.want c.args.negated in let rows = c.in-Some.rows in
    let told = subst (λ o. MatchOption o ((i : ℕ) → is_valid v i ≡ true) (λ rows. rows ≡ map (is_valid v) (range_with_len 0 (length vs)))) c.in-Some.is c.in_ok-valid.ensures in
    let matches = c.in_ok-mask.ensures ∙ (λ i. seen a (map (λ x. match_by_head (c.as_bytes.ensures.value i) x bs) vs)) in
    ap (seen a) (c.keep_valid.ensures ∙ (λ i. map (λ p. p.0 && p.1) (zip rows ((c.in_ok-mask-2.ensures ∙ ap (map w) matches) i))))
    ∙ seen_valid w a rows (map (λ x. match_by_head form x bs) vs)
    ∙ ap (seen a) (valid_liked c.args.want c.args.negated form c.utf8.pattern c.requires.literal vs bs v c.requires.sound rows told)
