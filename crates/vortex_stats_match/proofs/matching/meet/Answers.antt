use Rattle.std.proofs.Common.{◌∙◌, sym}
use Rattle.std.proofs.lemmas.Bool.{ne_eqb}
use Rattle.vortex_stats_match.proofs.PieceLemmas.{walk_start, walk_on, walk_missed, walk_ended, walk_wildcard}
use Rattle.vortex_stats_match.proofs.matching.meet.Goals as goal

pub loop-sign-init : goal.loop-sign-init
loop-sign-init c = walk_start c.args.pattern.now c.args.text.now

pub returns-then-sign-eq37 : goal.returns-then-sign-eq37
returns-then-sign-eq37 c = walk_wildcard _ _ _ _ _ _ c.loop-sign.invariant c.in-Some.ensures.cases.0 c.if-sign-eq37.true

pub returns-in-None : goal.returns-in-None
returns-in-None c =
    walk_missed _ _ _ _ _ _ c.loop-sign.invariant c.in-Some.ensures.cases.0 (ne_eqb _ _ c.if-sign-eq37.false) (sym c.in-None.ensures)

pub loop-sign-preserved : goal.loop-sign-preserved
loop-sign-preserved c =
    walk_on _ _ _ _ _ _ _ c.loop-sign.invariant c.in-Some.ensures.cases.0 (ne_eqb _ _ c.if-sign-eq37.false) (sym c.in-Some-left_by.ensures)

pub returns-then-is_empty : goal.returns-then-is_empty
returns-then-is_empty c = walk_ended _ _ _ _ c.loop-sign.invariant c.in_default.ensures.cases ∙ sym c.is_empty.ensures ∙ c.if-is_empty.true

pub returns-else-is_empty : goal.returns-else-is_empty
returns-else-is_empty c = walk_ended _ _ _ _ c.loop-sign.invariant c.in_default.ensures.cases ∙ sym c.is_empty.ensures ∙ c.if-is_empty.false
