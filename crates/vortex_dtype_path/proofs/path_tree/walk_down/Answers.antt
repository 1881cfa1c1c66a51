use Rattle.std.proofs.Common.{Some}
use Rattle.vortex_dtype_path.specs.Tree.{nodes_of}
use Rattle.vortex_dtype_path.proofs.Nodes.{walked_more, nothing_past}
use Rattle.vortex_dtype_path.proofs.path_tree.walk_down.Goals as goal

pub loop-taken-preserved : goal.loop-taken-preserved
loop-taken-preserved c =
    walked_more (nodes_of c.args.nodes.now) c.args.steps.now c.loop-taken.taken c.index-steps-taken.result c.loop-taken.at (Some c.in-Some.next)
    c.loop-taken-test.true c.index-steps-taken.is c.loop-taken.invariant c.in-Some.ensures

pub returns-clause-ends : goal.returns-clause-ends
returns-clause-ends c = λ s e. absurd (nothing_past c.args.steps.now s e)
