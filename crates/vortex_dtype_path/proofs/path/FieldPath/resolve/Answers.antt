use Rattle.vortex_dtype_core.specs.View.{type_of}
use Rattle.vortex_dtype_path.proofs.Walks.{walked}
use Rattle.vortex_dtype_path.proofs.path.FieldPath.resolve.Goals as goal

pub loop-step-preserved : goal.loop-step-preserved
loop-step-preserved c =
    walked (type_of c.loop-step.part.now) (type_of c.in_ok-part.part.now) c.parts-step-items.result.now c.loop-step.step-index c.step-item.result _
    c.loop-step-test.true c.step-item.is c.in_ok-part.ensures c.loop-step.invariant
