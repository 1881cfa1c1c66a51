use Rattle.std.proofs.Common.{◌≡◌, true, false}
use Rattle.vortex_dtype_core.specs.Parts.{is_boolean_type}
use Rattle.vortex_stats_bind.specs.Bound.{value_type}
use Rattle.vortex_stats_bind.proofs.Made.{not_judged, made}
use Rattle.vortex_stats_bind.proofs.make.not.Goals as goal

pub returns-then-not-is_boolean : goal.returns-then-not-is_boolean
returns-then-not-is_boolean c =
    let t : is_boolean_type (value_type c.args.input.value) ≡ false = cc (c.is_boolean.ensures, c.if-not-is_boolean.true) in
    λ k x h. (not_judged k x c.args.input.value h).failed t

pub returns : goal.returns
returns c =
    let t : is_boolean_type (value_type c.args.input.value) ≡ true = cc (c.is_boolean.ensures, c.if-not-is_boolean.false) in
    λ k x h. made _ _ _ _ _ _ c.in_ok-bound_not.ensures (not_judged k x c.args.input.value h) t
