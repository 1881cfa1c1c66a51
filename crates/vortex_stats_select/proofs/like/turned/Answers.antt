use Rattle.std.proofs.Common.{◌∙◌, sym, map}
use Rattle.vortex_stats_select.specs.Wants.{wanted_match}
use Rattle.vortex_stats_select.proofs.LikeLemmas.{as_is, as_is_negated}
use Rattle.vortex_stats_select.proofs.like.turned.Goals as goal

pub returns-in-true-false : goal.returns-in-true-false
returns-in-true-false c =
    sym (as_is c.args.mask.items)
    ∙ (λ i. map (wanted_match (sym c.in-true-false.is-0 i) (sym c.in-true-false.is-1 i)) c.args.mask.items)

pub returns-in-false-true : goal.returns-in-false-true
returns-in-false-true c =
    sym (as_is_negated c.args.mask.items)
    ∙ (λ i. map (wanted_match (sym c.in-false-true.is-0 i) (sym c.in-false-true.is-1 i)) c.args.mask.items)
