use Rattle.std.proofs.Common.{rules, ◌≡◌, ◌<◌, ◌≤◌, ℤ, length, get_or, sym, subst, arith, FitsSigned}
use Rattle.std.specs.Int.{w128}
use Rattle.std.proofs.lemmas.Int.{to_z-of_z}
use Rattle.vortex_arrays_model.specs.Layout.{len_of, content_at}
use Rattle.vortex_arrays_cast.specs.Ranges.{IsBetween, IsRangeIn}
use Rattle.vortex_arrays_cast.proofs.RangeLemmas.{own}
use Rattle.vortex_arrays_cast.proofs.ranges.own_range.Goals as goal

pub returns : goal.returns
returns c = λ a h i l.
    let rs = c.args.ranges.now in let r = c.in_ok-range.range.now in let past = c.if-range-depth.false in
    let inside : 0 < length rs = c.in_ok-range.ensures.item.3.0 in
    let first : r ≡ get_or rs 0 r = c.in_ok-range.ensures.item.1 in
    let here : length r.positions.now ≤ c.args.depth = grind (arith, past) in
    let range : IsRangeIn c.args.depth (len_of a) (content_at a) r = subst (IsRangeIn c.args.depth (len_of a) (content_at a)) (sym first) (h 0 r inside) in
    let between : IsBetween r.low r.high (content_at a i) = own c.args.depth a r here range i l in
    let low : FitsSigned w128 r.low = search rules in
    let high : FitsSigned w128 r.high = search rules in
    subst (λ (p : ℤ × ℤ). IsBetween p.0 p.1 (content_at a i)) (λ t. (sym (to_z-of_z w128 r.low low) t, sym (to_z-of_z w128 r.high high) t)) between
