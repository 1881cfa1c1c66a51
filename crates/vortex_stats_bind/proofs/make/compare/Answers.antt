use Rattle.std.proofs.Common.{◌≡◌, true, false}
use Rattle.vortex_model.specs.LogicalType.{equal_ignoring_nullability}
use Rattle.vortex_stats_expr.specs.Tree.{comparison_of}
use Rattle.vortex_stats_bind.specs.Bound.{value_type}
use Rattle.vortex_stats_bind.proofs.Made.{compare_judged, made}
use Rattle.vortex_stats_bind.proofs.make.compare.Goals as goal

pub returns-then-not-branch : goal.returns-then-not-branch
returns-then-not-branch c =
    let t : equal_ignoring_nullability (value_type c.args.left.value) (value_type c.args.right.value) ≡ false = cc (c.in_ok-is_alike.ensures, c.if-not-branch.true) in
    λ k x y h g. (compare_judged k x y c.args.left.value c.args.right.value h g (comparison_of c.args.comparison)).failed t

pub returns : goal.returns
returns c =
    let t : equal_ignoring_nullability (value_type c.args.left.value) (value_type c.args.right.value) ≡ true = cc (c.in_ok-is_alike.ensures, c.if-not-branch.false) in
    λ k x y h g. made _ _ _ _ _ _ c.in_ok-bound_compare.ensures (compare_judged k x y c.args.left.value c.args.right.value h g (comparison_of c.args.comparison)) t
