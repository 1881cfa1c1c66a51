use Rattle.std.proofs.Common.{rules, ℤ, get_or, sym, subst, FitsSigned}
use Rattle.std.specs.Int.{w128}
use Rattle.std.proofs.lemmas.Int.{to_z-of_z}
use Rattle.vortex_arrays_cast.specs.Ranges.{IsBetween}
use Rattle.vortex_table_layout.proofs.RangeLemmas.{lie_between}
use Rattle.vortex_table_layout.proofs.ranges.range_of.Goals as goal

pub returns : goal.returns
returns c = λ L values h k d l.
    let x = c.in_ok-low.low in let y = c.in_ok-high.high in
    let low : FitsSigned w128 x = search rules in let high : FitsSigned w128 y = search rules in
    subst (λ (p : ℤ × ℤ). IsBetween p.0 p.1 (get_or values k d)) (λ t. (sym (to_z-of_z w128 x low) t, sym (to_z-of_z w128 y high) t))
    (lie_between x y c.args.bounds.now L values c.in_ok-low.ensures c.in_ok-high.ensures h k d l)
