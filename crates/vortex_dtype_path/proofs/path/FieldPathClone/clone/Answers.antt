use Rattle.vortex_dtype_path.specs.View.{step_of}
use Rattle.vortex_dtype_path.proofs.Walks.{pushed}
use Rattle.vortex_dtype_path.proofs.path.FieldPathClone.clone.Goals as goal

pub loop-part-preserved : goal.loop-part-preserved
loop-part-preserved c =
    pushed step_of step_of c.loop-part.parts.items c.push.new.self.items c.deref-part-items.result.now c.loop-part.part-index c.part-item.result c.in_ok-clone.field-0
    c.loop-part-test.true c.part-item.is c.in_ok-clone.ensures.cases c.in_ok-push.ensures.items c.loop-part.invariant
