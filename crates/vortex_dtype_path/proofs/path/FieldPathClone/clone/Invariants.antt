use Rattle.std.proofs.Common.{◌≡◌, take, map}
use Rattle.vortex_dtype_path.specs.View.{step_of}
use Rattle.vortex_dtype_path.proofs.path.FieldPathClone.clone.Given as goal

abbrev pub invariant-loop-part : goal.invariant-loop-part
invariant-loop-part l = map step_of l.parts.items ≡ map step_of (take l.part-index l.part-items)
