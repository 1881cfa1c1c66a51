use Rattle.std.proofs.Common.{◌≡◌, true, false}
use Rattle.vortex_stats_bind.specs.Truths.{is_of_floats}
use Rattle.vortex_stats_bind.proofs.Made.{nan_judged, made}
use Rattle.vortex_stats_bind.proofs.make.is_nan.Goals as goal

pub returns-then-not-is_of_floats : goal.returns-then-not-is_of_floats
returns-then-not-is_of_floats c =
    let t : is_of_floats c.args.input.value ≡ false = cc (c.is_of_floats.ensures, c.if-not-is_of_floats.true) in
    λ k x h. (nan_judged k x c.args.input.value h).failed t

pub returns : goal.returns
returns c =
    let t : is_of_floats c.args.input.value ≡ true = cc (c.is_of_floats.ensures, c.if-not-is_of_floats.false) in
    λ k x h. made _ _ _ _ _ _ c.in_ok-bound_is_nan.ensures (nan_judged k x c.args.input.value h) t
