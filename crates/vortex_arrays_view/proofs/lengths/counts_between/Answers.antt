use Rattle.std.proofs.Common.{rules, arith, ◌≡◌, ◌∙◌, subst, ℤ, ◌-◌, ◌≤◌, ◌<◌, length, map, FitsSigned}
use Rattle.std.specs.Prelude.{unsigned_abs}
use Rattle.std.specs.Int.{IsNonNegative, w128}
use Rattle.std.proofs.lemmas.Int.{to_z-of_z}
use Rattle.vortex_arrays_view.specs.Lengths.{lengths_between}
use Rattle.vortex_arrays_view.proofs.Counted.{between_places, count-between, counted_none, counted_more, counted_refused, counted_all, adds_up, bytes_left}
use Rattle.vortex_arrays_view.proofs.lengths.counts_between.Goals as goal

pub returns-in_default-clause-refused : goal.returns-in_default-clause-refused
returns-in_default-clause-refused g c =
    let steps : c.saturating_sub-steps.result ≡ length c.args.offsets.now - 1 = search rules in
    let l : c.loop-i.i < length (lengths_between (map g.P.Sealed.integer c.args.offsets.now)) = omega (arith, count-between g.P.Sealed.integer c.args.offsets.now, steps, c.loop-i-test.true) in
    let fits : FitsSigned w128 c.difference-length.result = search rules in
    let over = subst (λ (z : ℤ). IsNonNegative z → c.loop-i.left < unsigned_abs z) (to_z-of_z w128 c.difference-length.result fits) c.in_default.ensures.refused in
    counted_refused (lengths_between (map g.P.Sealed.integer c.args.offsets.now)) c.loop-i.i c.loop-i.counts.items c.loop-i.left c.args.total c.difference-length.result c.loop-i.invariant l
    (between_places g.P.Sealed.integer c.args.offsets.now c.loop-i.i c.index-offsets-i-in-loop-i.result c.index-offsets-i.result c.difference-length.result (omega (arith, steps, c.loop-i-test.true)) c.index-offsets-i.is c.index-offsets-i-in-loop-i.is c.difference-length.ensures) over

pub loop-i-init : goal.loop-i-init
loop-i-init g c =
    let steps : c.saturating_sub-steps.result ≡ length c.args.offsets.now - 1 = search rules in
    let many : length c.in_ok-counts.counts.items ≡ c.saturating_sub-steps.result = search rules in
    counted_none (lengths_between (map g.P.Sealed.integer c.args.offsets.now)) c.in_ok-counts.counts.items c.args.total (omega (arith, count-between g.P.Sealed.integer c.args.offsets.now, steps, many))

pub loop-i-preserved : goal.loop-i-preserved
loop-i-preserved g c =
    let steps : c.saturating_sub-steps.result ≡ length c.args.offsets.now - 1 = search rules in
    let l : c.loop-i.i < length (lengths_between (map g.P.Sealed.integer c.args.offsets.now)) = omega (arith, count-between g.P.Sealed.integer c.args.offsets.now, steps, c.loop-i-test.true) in
    let fits : FitsSigned w128 c.difference-length.result = search rules in
    counted_more (lengths_between (map g.P.Sealed.integer c.args.offsets.now)) c.loop-i.i c.loop-i.counts.items c.loop-i.left c.args.total c.difference-length.result c.in-Some.count c.loop-i.invariant l
    (between_places g.P.Sealed.integer c.args.offsets.now c.loop-i.i c.index-offsets-i-in-loop-i.result c.index-offsets-i.result c.difference-length.result (omega (arith, steps, c.loop-i-test.true)) c.index-offsets-i.is c.index-offsets-i-in-loop-i.is c.difference-length.ensures) (c.in-Some.ensures.count.0 ∙ to_z-of_z w128 c.difference-length.result fits) c.in-Some.ensures.count.1

pub returns-then-left-gt0-clause-refused : goal.returns-then-left-gt0-clause-refused
returns-then-left-gt0-clause-refused g c =
    let steps : c.saturating_sub-steps.result ≡ length c.args.offsets.now - 1 = search rules in
    let h : length (lengths_between (map g.P.Sealed.integer c.args.offsets.now)) ≤ c.loop-i.i = omega (arith, count-between g.P.Sealed.integer c.args.offsets.now, steps, c.loop-i-test.false) in
    bytes_left (lengths_between (map g.P.Sealed.integer c.args.offsets.now)) c.loop-i.i c.loop-i.counts.items c.loop-i.left c.args.total c.loop-i.invariant h c.if-left-gt0.true

pub returns-clause-counts : goal.returns-clause-counts
returns-clause-counts g c =
    let steps : c.saturating_sub-steps.result ≡ length c.args.offsets.now - 1 = search rules in
    let h : length (lengths_between (map g.P.Sealed.integer c.args.offsets.now)) ≤ c.loop-i.i = omega (arith, count-between g.P.Sealed.integer c.args.offsets.now, steps, c.loop-i-test.false) in
    counted_all (lengths_between (map g.P.Sealed.integer c.args.offsets.now)) c.loop-i.i c.loop-i.counts.items c.loop-i.left c.args.total c.loop-i.invariant h

pub returns-clause-add_up : goal.returns-clause-add_up
returns-clause-add_up g c =
    let steps : c.saturating_sub-steps.result ≡ length c.args.offsets.now - 1 = search rules in
    let h : length (lengths_between (map g.P.Sealed.integer c.args.offsets.now)) ≤ c.loop-i.i = omega (arith, count-between g.P.Sealed.integer c.args.offsets.now, steps, c.loop-i-test.false) in
    adds_up (lengths_between (map g.P.Sealed.integer c.args.offsets.now)) c.loop-i.i c.loop-i.counts.items c.loop-i.left c.args.total c.loop-i.invariant h c.if-left-gt0.false
