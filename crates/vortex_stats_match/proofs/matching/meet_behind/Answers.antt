use Rattle.std.proofs.Common.{◌∙◌, sym, eqb-true}
use Rattle.vortex_stats_match.proofs.PieceLemmas.{any_end}
use Rattle.vortex_stats_match.proofs.FindLemmas.{meets_behind}
use Rattle.vortex_stats_match.proofs.matching.meet_behind.Goals as goal

pub returns-then-is_empty : goal.returns-then-is_empty
returns-then-is_empty c = any_end c.args.pattern.now c.args.text.now (eqb-true _ _ (sym c.is_empty.ensures ∙ c.if-is_empty.true))

pub returns-in-Some : goal.returns-in-Some
returns-in-Some c =
    meets_behind c.args.pattern.now c.args.text.now c.behind_ones.result.now c.in-Some.left.now c.meet_later.result c.behind_ones.ensures c.in-Some.ensures
    c.meet_later.ensures
