use Rattle.std.proofs.Common.{rules, ◌≡◌, ◌<◌, length, map, true, FitsSigned, arith}
use Rattle.std.specs.Int.{w128}
use Rattle.std.proofs.lemmas.Int.{to_z-of_z}
use Rattle.std.proofs.lemmas.List.{length-map}
use Rattle.vortex_model.specs.Content.{integer}
use Rattle.vortex_model.proofs.Lists.{number_at}
use Rattle.vortex_arrays_model.specs.Layout.{IsView}
use Rattle.vortex_arrays_nested.proofs.PairLemmas.{ViewAt, one_view_more, view_here, view_there}
use Rattle.vortex_arrays_nested.proofs.pairs.pairs_lie_within.Goals as goal

pub returns-then-not-is_view : goal.returns-then-not-is_view
returns-then-not-is_view g c =
    let inside : c.loop-i.i < length c.args.sizes.now = omega arith in
    let o = number_at g.T.Sealed.integer c.args.offsets.now c.loop-i.i c.index-offsets-i.result c.get-offset.result c.loop-i-test.true c.index-offsets-i.is c.get-offset.ensures.number in
    let s = number_at g.S.Sealed.integer c.args.sizes.now c.loop-i.i c.index-sizes-i.result c.get-size.result inside c.index-sizes-i.is c.get-size.ensures.number in
    let fo : FitsSigned w128 c.get-offset.result = search rules in
    let fs : FitsSigned w128 c.get-size.result = search rules in
    let within : c.loop-i.i < length (map g.T.Sealed.integer c.args.offsets.now) = omega (arith, length-map c.args.offsets.now g.T.Sealed.integer) in (
      λ t. absurd (cc (t)),
      λ all.
          let holds : c.is_view.result ≡ true = c.is_view.ensures.1 (rw (to_z-of_z w128 c.get-offset.result fo, to_z-of_z w128 c.get-size.result fs) (view_there c.args.count (map g.T.Sealed.integer c.args.offsets.now) (map g.S.Sealed.integer c.args.sizes.now) c.loop-i.i c.get-offset.result c.get-size.result o s (all c.loop-i.i within))) in
          search (rules, holds),
    )

pub loop-i-preserved : goal.loop-i-preserved
loop-i-preserved g c =
    let inside : c.loop-i.i < length c.args.sizes.now = omega arith in
    let o = number_at g.T.Sealed.integer c.args.offsets.now c.loop-i.i c.index-offsets-i.result c.get-offset.result c.loop-i-test.true c.index-offsets-i.is c.get-offset.ensures.number in
    let s = number_at g.S.Sealed.integer c.args.sizes.now c.loop-i.i c.index-sizes-i.result c.get-size.result inside c.index-sizes-i.is c.get-size.ensures.number in
    let holds : c.is_view.result ≡ true = search rules in
    let fo : FitsSigned w128 c.get-offset.result = search rules in
    let fs : FitsSigned w128 c.get-size.result = search rules in
    let seen : IsView c.args.count (integer c.get-offset.result) (integer c.get-size.result) = rw (to_z-of_z w128 c.get-offset.result fo, to_z-of_z w128 c.get-size.result fs) at c.is_view.ensures.0 holds in
    let here : ViewAt c.args.count (map g.T.Sealed.integer c.args.offsets.now) (map g.S.Sealed.integer c.args.sizes.now) c.loop-i.i = view_here c.args.count (map g.T.Sealed.integer c.args.offsets.now) (map g.S.Sealed.integer c.args.sizes.now) c.loop-i.i c.get-offset.result c.get-size.result o s seen in
    one_view_more c.args.count (map g.T.Sealed.integer c.args.offsets.now) (map g.S.Sealed.integer c.args.sizes.now) c.loop-i.i c.loop-i.invariant here

pub returns : goal.returns
returns g c = (λ t. λ k l. c.loop-i.invariant k (omega (arith, length-map c.args.offsets.now g.T.Sealed.integer)), λ h. search rules)
