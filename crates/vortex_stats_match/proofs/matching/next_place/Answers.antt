use Rattle.std.proofs.Common.{refl, arith}
use Rattle.vortex_stats_match.proofs.FindLemmas.{nowhere, place, occurs}
use Rattle.vortex_stats_match.proofs.matching.next_place.Goals as goal

pub returns-in-None : goal.returns-in-None
returns-in-None c =
    nowhere c.args.pattern.now c.args.text.now
    (λ j le e. c.in-None.ensures j (omega arith) (omega (arith, le)) (occurs c.args.pattern.now c.args.finder.now c.args.text.now c.requires j le e))

pub returns-in-Some : goal.returns-in-Some
returns-in-Some c =
    place c.args.pattern.now c.args.text.now _ c.in-Some.place (omega (arith, c.in-Some.ensures.0.high))
    (λ j lt e. c.in-Some.ensures.0.before j (omega arith) lt
    (occurs c.args.pattern.now c.args.finder.now c.args.text.now c.requires j (omega (arith, lt, c.in-Some.ensures.0.high)) e)) refl
