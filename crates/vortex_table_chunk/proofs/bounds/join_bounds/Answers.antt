use Rattle.std.proofs.Common.{arith}
use Rattle.vortex_table_chunk.proofs.JoinLists.{as_many, can_join_at, join_pushed, joins_done}
use Rattle.vortex_table_chunk.proofs.bounds.join_bounds.Goals as goal

pub bounds-right-index : goal.bounds-right-index
bounds-right-index c = let same = as_many c.args.left.now c.args.right.now c.requires in omega (arith, same, c.loop-index-test.true)

pub join_stats-requires-clause-nulls : goal.join_stats-requires-clause-nulls
join_stats-requires-clause-nulls c =
    (can_join_at c.args.left.now c.args.right.now c.loop-index.index c.index-left-index.result c.index-right-index.result c.requires c.loop-index-test.true c.index-left-index.is c.index-right-index.is).nulls

pub join_stats-requires-clause-rows : goal.join_stats-requires-clause-rows
join_stats-requires-clause-rows c =
    (can_join_at c.args.left.now c.args.right.now c.loop-index.index c.index-left-index.result c.index-right-index.result c.requires c.loop-index-test.true c.index-left-index.is c.index-right-index.is).rows

pub loop-index-preserved : goal.loop-index-preserved
loop-index-preserved c =
    join_pushed c.args.left.now c.args.right.now c.loop-index.all.items c.push.new.self.items c.loop-index.index c.index-left-index.result c.index-right-index.result c.in_ok-joined.joined
    c.requires c.loop-index-test.true c.index-left-index.is c.index-right-index.is c.in_ok-push.ensures.items c.in_ok-joined.ensures c.loop-index.invariant

pub returns : goal.returns
returns c = joins_done c.args.left.now c.args.right.now c.loop-index.all.items c.loop-index.index c.requires c.loop-index-test.false c.loop-index.invariant
