use Rattle.std.proofs.Common.{◌≡◌, true, false, ◌&&◌}
use Rattle.vortex_dtype_core.specs.Parts.{is_boolean_type}
use Rattle.vortex_stats_bind.specs.Bound.{value_type}
use Rattle.vortex_stats_bind.proofs.Made.{either_judged, made}
use Rattle.vortex_stats_bind.proofs.make.or.Goals as goal

pub returns-then-not-are_boolean : goal.returns-then-not-are_boolean
returns-then-not-are_boolean c =
    let t : (is_boolean_type (value_type c.args.left.value) && is_boolean_type (value_type c.args.right.value)) ≡ false = cc (c.are_boolean.ensures, c.if-not-are_boolean.true) in
    λ k x y h g. (either_judged k x y c.args.left.value c.args.right.value h g).failed t

pub returns : goal.returns
returns c =
    let t : (is_boolean_type (value_type c.args.left.value) && is_boolean_type (value_type c.args.right.value)) ≡ true = cc (c.are_boolean.ensures, c.if-not-are_boolean.false) in
    λ k x y h g. made _ _ _ _ _ _ c.in_ok-bound_or.ensures (either_judged k x y c.args.left.value c.args.right.value h g) t
