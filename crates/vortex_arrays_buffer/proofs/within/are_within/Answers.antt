use Rattle.std.proofs.Common.{rules, ◌≡◌, length, map, true, FitsSigned, subst, arith}
use Rattle.std.specs.Int.{w128}
use Rattle.std.proofs.lemmas.Int.{to_z-of_z}
use Rattle.vortex_model.proofs.Lists.{number_at}
use Rattle.vortex_arrays_buffer.specs.Places.{IsPlace}
use Rattle.vortex_arrays_buffer.proofs.PlaceLemmas.{one_more, all_places, a_place}
use Rattle.vortex_arrays_buffer.proofs.within.are_within.Goals as goal

pub returns-then-not-is_within : goal.returns-then-not-is_within
returns-then-not-is_within g c =
    let fits : FitsSigned w128 c.get-number.result = search rules in
    let at = number_at g.T.Sealed.integer c.args.items.now c.loop-i.i c.index-items-i.result c.get-number.result c.loop-i-test.true c.index-items-i.is c.get-number.ensures.number in (
      λ t. absurd (cc (t)),
      λ all.
          let here : IsPlace c.args.count c.get-number.result = a_place g.T.Sealed.integer c.args.items.now c.args.count c.loop-i.i c.get-number.result at c.loop-i-test.true all in
          let holds : c.is_within.result ≡ true = c.is_within.ensures.1 (rw (to_z-of_z w128 c.get-number.result fits) here) in
          search (rules, holds),
    )

pub loop-i-preserved : goal.loop-i-preserved
loop-i-preserved g c =
    let fits : FitsSigned w128 c.get-number.result = search rules in
    let at = number_at g.T.Sealed.integer c.args.items.now c.loop-i.i c.index-items-i.result c.get-number.result c.loop-i-test.true c.index-items-i.is c.get-number.ensures.number in
    let holds : c.is_within.result ≡ true = search rules in
    let here : IsPlace c.args.count c.get-number.result = subst (IsPlace c.args.count) (to_z-of_z w128 c.get-number.result fits) (c.is_within.ensures.0 holds) in
    one_more c.args.count (map g.T.Sealed.integer c.args.items.now) c.loop-i.i c.get-number.result c.loop-i.invariant at here

pub returns : goal.returns
returns g c =
    let all : length c.args.items.now ≡ c.loop-i.i = omega arith in
    (λ t. all_places g.T.Sealed.integer c.args.items.now c.args.count c.loop-i.i c.loop-i.invariant all, λ h. search rules)
