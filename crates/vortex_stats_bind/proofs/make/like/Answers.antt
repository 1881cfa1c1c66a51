use Rattle.std.proofs.Common.{◌≡◌, true, false, ◌&&◌}
use Rattle.vortex_dtype_core.specs.Parts.{is_utf8_type}
use Rattle.vortex_stats_bind.specs.Bound.{value_type}
use Rattle.vortex_stats_bind.proofs.Made.{like_judged, made}
use Rattle.vortex_stats_bind.proofs.make.like.Goals as goal

pub returns-then-not-are_utf8 : goal.returns-then-not-are_utf8
returns-then-not-are_utf8 c =
    let t : (is_utf8_type (value_type c.args.value.value) && is_utf8_type (value_type c.args.pattern.value)) ≡ false = cc (c.are_utf8.ensures, c.if-not-are_utf8.true) in
    λ k x y h g. (like_judged k x y c.args.value.value c.args.pattern.value h g c.args.options.negated c.args.options.case_insensitive).failed t

pub returns : goal.returns
returns c =
    let t : (is_utf8_type (value_type c.args.value.value) && is_utf8_type (value_type c.args.pattern.value)) ≡ true = cc (c.are_utf8.ensures, c.if-not-are_utf8.false) in
    λ k x y h g. made _ _ _ _ _ _ c.in_ok-bound_like.ensures (like_judged k x y c.args.value.value c.args.pattern.value h g c.args.options.negated c.args.options.case_insensitive) t
