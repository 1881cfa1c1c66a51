use Rattle.std.proofs.Common.{rules, ◌≡◌, map, get_or, false, true, FitsSigned, subst, sym, ◌∙◌}
use Rattle.std.specs.Int.{w128}
use Rattle.std.proofs.lemmas.Int.{to_z-of_z}
use Rattle.vortex_model.proofs.Lists.{number_at}
use Rattle.vortex_arrays_buffer.specs.Places.{IsPlace}
use Rattle.vortex_arrays_buffer.proofs.PlaceLemmas.{one_more_where, all_where}
use Rattle.vortex_arrays_buffer.proofs.within.are_within_where.Goals as goal
use Rattle.vortex_arrays_buffer.proofs.within.are_within_where.Goals.{else-not-is_within-via-then-not-is_within+else-value, else-not-is_within-via-else-not-is_within}

pub returns : goal.returns
returns g c = (λ t. all_where g.T.Sealed.integer c.args.bits.now c.args.items.now c.args.count c.loop-i.i c.loop-i.invariant c.loop-i-test.false, λ h. search rules)

pub loop-i-preserved : goal.loop-i-preserved
loop-i-preserved g c =
    let fits : FitsSigned w128 c.get-number.result = search rules in
    let at = number_at g.T.Sealed.integer c.args.items.now c.loop-i.i c.index-items-i.result c.get-number.result c.loop-i-test.true c.index-items-i.is c.get-number.ensures.number in
    one_more_where c.args.bits.now c.args.count (map g.T.Sealed.integer c.args.items.now) c.loop-i.i c.get-number.result c.loop-i.invariant at (λ t. elim c.else-not-is_within.branch [
      | else-not-is_within-via-then-not-is_within+else-value w ↦ let no : get_or c.args.bits.now c.loop-i.i false ≡ false = sym w.value.ensures ∙ w.if-value.false in absurd (cc (no, t))
      | else-not-is_within-via-else-not-is_within w ↦ let holds : c.is_within.result ≡ true = w.if-not-is_within.false in subst (IsPlace c.args.count) (to_z-of_z w128 c.get-number.result fits) (c.is_within.ensures.0 holds)
    ])
