use Rattle.std.proofs.Common.{◌∙◌, arith}
use Rattle.vortex_stats_match.specs.Bytes.{byte_matches}
use Rattle.vortex_stats_match.proofs.SignLemmas.{first_end}
use Rattle.vortex_stats_match.proofs.PieceLemmas.{no_end, next_end}
use Rattle.vortex_stats_match.proofs.matching.meet_later.Goals as goal

pub returns-in-IsWhole : goal.returns-in-IsWhole
returns-in-IsWhole c =
    c.loop-place.invariant.ends ∙ c.in-Some-next_place.ensures.ends ∙ first_end (byte_matches c.args.pattern.now) c.in-Some-next_place.place.now c.in-IsWhole.ensures

pub returns-in-Wildcard : goal.returns-in-Wildcard
returns-in-Wildcard c = record {
  ends = c.loop-place.invariant.ends ∙ c.in-Some-next_place.ensures.ends ∙ c.in-Wildcard.ensures.later;
  shorter = c.in-Wildcard.ensures.shorter;
}

pub returns-in-None : goal.returns-in-None
returns-in-None c =
    c.loop-place.invariant.ends ∙ c.in-Some-next_place.ensures.ends ∙ no_end c.args.pattern.now c.in-Some-next_place.place.now c.in-None.ensures.cases c.in-Differs.ensures

pub loop-place-smaller : goal.loop-place-smaller
loop-place-smaller c = omega (arith, c.in-Some-split_first.ensures.cases.1, c.in-Some-next_place.ensures.no_longer)

pub loop-place-preserved : goal.loop-place-preserved
loop-place-preserved c = record {
  ends =
      c.loop-place.invariant.ends ∙ c.in-Some-next_place.ensures.ends
      ∙ next_end c.args.pattern.now c.in-Some-next_place.place.now _ _ c.in-Some-split_first.ensures.cases.0 c.in-Differs.ensures;
  no_longer = omega (arith, c.in-Some-split_first.ensures.cases.1, c.in-Some-next_place.ensures.no_longer, c.loop-place.invariant.no_longer);
}
