use Rattle.std.proofs.Common.{rules, arith, ◌≡◌, ◌∙◌, sym, ap, subst, false, ℤ, pos, ◌-◌, ◌≤◌, ◌<◌, ◌++◌, [], ◌∷◌, length, map, take, FitsSigned}
use Rattle.std.specs.Int.{w128}
use Rattle.std.proofs.lemmas.Int.{to_z-of_z}
use Rattle.std.proofs.lemmas.List.{take_all, take_more, take_more_set, map_push, length-set, get_or_default}
use Rattle.vortex_model.specs.Valid.{in_range}
use Rattle.vortex_arrays_view.specs.Lengths.{lengths_between}
use Rattle.vortex_arrays_view.proofs.Counted.{between_places, count-between}
use Rattle.vortex_arrays_view.proofs.lengths.offsets_to_lengths.Goals as goal

pub returns-in_default-clause-refused : goal.returns-in_default-clause-refused
returns-in_default-clause-refused g c =
    let steps : c.saturating_sub-count.result ≡ length c.args.offsets.now - 1 = search rules in
    let l : c.loop-i.i < length (lengths_between (map g.P.Sealed.integer c.args.offsets.now)) = omega (arith, count-between g.P.Sealed.integer c.args.offsets.now, steps, c.loop-i-test.true) in
    let fits : FitsSigned w128 c.difference.result = search rules in
    let at = between_places g.P.Sealed.integer c.args.offsets.now c.loop-i.i c.index-offsets-i-in-loop-i.result c.index-offsets-i.result c.difference.result (omega (arith, steps, c.loop-i-test.true)) c.index-offsets-i.is c.index-offsets-i-in-loop-i.is c.difference.ensures in
    (c.loop-i.i, c.difference.result, l, get_or_default (lengths_between (map g.P.Sealed.integer c.args.offsets.now)) c.loop-i.i c.difference.result (pos 0) l ∙ sym at, sym (subst (λ (z : ℤ). false ≡ in_range g.P.Sealed.kind z) (to_z-of_z w128 c.difference.result fits) c.in_default.ensures.when))

pub loop-i-preserved : goal.loop-i-preserved
loop-i-preserved g c =
    let steps : c.saturating_sub-count.result ≡ length c.args.offsets.now - 1 = search rules in
    let l : c.loop-i.i < length (lengths_between (map g.P.Sealed.integer c.args.offsets.now)) = omega (arith, count-between g.P.Sealed.integer c.args.offsets.now, steps, c.loop-i-test.true) in
    let fits : FitsSigned w128 c.difference.result = search rules in
    let at = between_places g.P.Sealed.integer c.args.offsets.now c.loop-i.i c.index-offsets-i-in-loop-i.result c.index-offsets-i.result c.difference.result (omega (arith, steps, c.loop-i-test.true)) c.index-offsets-i.is c.index-offsets-i-in-loop-i.is c.difference.ensures in
    let number : g.P.Sealed.integer c.in-Some.length ≡ c.difference.result = c.in-Some.ensures.number ∙ to_z-of_z w128 c.difference.result fits in
    let here : c.loop-i.i < length c.loop-i.lengths.items = omega (arith, c.loop-i.invariant.room, steps, c.loop-i-test.true) in
    record {
      room = length-set c.loop-i.lengths.items c.loop-i.i c.in-Some.length ∙ c.loop-i.invariant.room;
      made = ap (map g.P.Sealed.integer) (take_more_set c.loop-i.lengths.items c.loop-i.i c.in-Some.length here)
          ∙ map_push g.P.Sealed.integer (take c.loop-i.i c.loop-i.lengths.items) c.in-Some.length
          ∙ ap (λ zs. zs ++ g.P.Sealed.integer c.in-Some.length ∷ []) c.loop-i.invariant.made
          ∙ ap (λ z. take c.loop-i.i (lengths_between (map g.P.Sealed.integer c.args.offsets.now)) ++ z ∷ []) (number ∙ at)
          ∙ sym (take_more (lengths_between (map g.P.Sealed.integer c.args.offsets.now)) c.loop-i.i (pos 0) l);
    }

pub returns-clause-lengths : goal.returns-clause-lengths
returns-clause-lengths g c =
    let steps : c.saturating_sub-count.result ≡ length c.args.offsets.now - 1 = search rules in
    let h : length (lengths_between (map g.P.Sealed.integer c.args.offsets.now)) ≤ c.loop-i.i = omega (arith, count-between g.P.Sealed.integer c.args.offsets.now, steps, c.loop-i-test.false) in
    let whole : take c.loop-i.i c.loop-i.lengths.items ≡ c.loop-i.lengths.items = take_all c.loop-i.i c.loop-i.lengths.items (omega (arith, c.loop-i.invariant.room, steps, c.loop-i-test.false)) in
    sym (ap (map g.P.Sealed.integer) whole) ∙ c.loop-i.invariant.made ∙ take_all c.loop-i.i (lengths_between (map g.P.Sealed.integer c.args.offsets.now)) h
