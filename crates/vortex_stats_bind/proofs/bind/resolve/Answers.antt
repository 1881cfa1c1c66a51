use Rattle.std.proofs.Common.{arith}
use Rattle.vortex_stats_bind.proofs.Columns.{at_next, at_end}
use Rattle.vortex_stats_bind.proofs.bind.resolve.Goals as goal

pub loop-name-preserved : goal.loop-name-preserved
loop-name-preserved c =
    at_next _ _ _ _ _ _ _ _ _ _ _ c.as_slice-name-items.result.now c.loop-name.name-index (omega arith) c.name-item.is
    c.in-Some.ensures.position c.in-Some.ensures.part c.nullability.ensures c.bitor-around.ensures c.in_ok-push.ensures.items c.loop-name.invariant

pub returns : goal.returns
returns c =
    let end = at_end _ _ _ _ _ c.as_slice-name-items.result.now c.loop-name.name-index _ (omega arith) c.in_ok-union_nullability.ensures c.loop-name.invariant in
    (c.in_ok-clone.ensures.cases, end.0, end.1)
