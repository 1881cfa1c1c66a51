use Rattle.std.proofs.Common.{refl, arith}
use Rattle.std.proofs.lemmas.Bool.{ne_eqb}
use Rattle.vortex_stats_match.proofs.FindLemmas.{stays, found_place, no_place}
use Rattle.vortex_stats_match.proofs.matching.near_place.Goals as goal

pub returns-in-None : goal.returns-in-None
returns-in-None c = stays _ _

pub returns-then-sign-eq37 : goal.returns-then-sign-eq37
returns-then-sign-eq37 c = stays _ _

pub returns-then-sign-eq95 : goal.returns-then-sign-eq95
returns-then-sign-eq95 c = stays _ _

pub returns-in-None-find_near : goal.returns-in-None-find_near
returns-in-None-find_near c =
    no_place _ _ _ _ c.in-Some.ensures.cases.0 (ne_eqb _ _ c.if-sign-eq37.false) (ne_eqb _ _ c.if-sign-eq95.false) c.in-None-find_near.ensures

pub returns-in-Some-find_near : goal.returns-in-Some-find_near
returns-in-Some-find_near c =
    found_place _ _ _ _ c.in-Some.ensures.cases.0 (ne_eqb _ _ c.if-sign-eq37.false) (ne_eqb _ _ c.if-sign-eq95.false) _ c.in-Some-find_near.place
    (omega (arith, c.in-Some-find_near.ensures.0.high)) c.in-Some-find_near.ensures.0.before refl
