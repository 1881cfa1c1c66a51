use Rattle.std.proofs.Common.{◌≡◌, true, false, ◌&&◌}
use Rattle.vortex_model.specs.LogicalType.{equal_ignoring_nullability}
use Rattle.vortex_stats_expr.specs.Tree.{is_strict}
use Rattle.vortex_stats_bind.specs.Bound.{value_type}
use Rattle.vortex_stats_bind.proofs.Made.{between_judged, made}
use Rattle.vortex_stats_bind.proofs.make.between.Goals as goal

pub returns-then-not-branch : goal.returns-then-not-branch
returns-then-not-branch c =
    let t : (equal_ignoring_nullability (value_type c.args.value.value) (value_type c.args.lower.value) && equal_ignoring_nullability (value_type c.args.value.value) (value_type c.args.upper.value)) ≡ false =
    cc (c.in_ok-are_alike.ensures, c.if-not-branch.true) in
    λ k x lo hi h l u. (between_judged k x lo c.args.value.value c.args.lower.value h l hi c.args.upper.value u (is_strict c.args.options.lower_strict) (is_strict c.args.options.upper_strict)).failed t

pub returns : goal.returns
returns c =
    let t : (equal_ignoring_nullability (value_type c.args.value.value) (value_type c.args.lower.value) && equal_ignoring_nullability (value_type c.args.value.value) (value_type c.args.upper.value)) ≡ true =
    cc (c.in_ok-are_alike.ensures, c.if-not-branch.false) in
    λ k x lo hi h l u. made _ _ _ _ _ _ c.in_ok-bound_between.ensures (between_judged k x lo c.args.value.value c.args.lower.value h l hi c.args.upper.value u (is_strict c.args.options.lower_strict) (is_strict c.args.options.upper_strict)) t
