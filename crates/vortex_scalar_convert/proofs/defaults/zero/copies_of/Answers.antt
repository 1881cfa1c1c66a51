use Rattle.std.proofs.Common.{◌≡◌, rules}
use Rattle.vortex_scalar_value.specs.View.{raw_of}
use Rattle.vortex_scalar_convert.proofs.defaults.Made.{times_next}
use Rattle.vortex_scalar_convert.proofs.defaults.zero.copies_of.Goals as goal

pub loop-preserved : goal.loop-preserved
loop-preserved c =
    let same : raw_of c.in_ok-copy.copy ≡ raw_of c.args.value.now = search rules in
    rw c.in_ok-push.ensures.items (times_next (raw_of c.args.value.now) c.loop.counter c.loop.copies.items c.in_ok-copy.copy same c.loop.invariant)
