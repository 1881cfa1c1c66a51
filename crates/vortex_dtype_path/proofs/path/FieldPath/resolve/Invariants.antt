use Rattle.std.proofs.Common.{◌≡◌, drop, map}
use Rattle.vortex_dtype_core.specs.View.{type_of}
use Rattle.vortex_dtype_path.specs.Resolve.{resolved}
use Rattle.vortex_dtype_path.specs.View.{step_of, steps_of}
use Rattle.vortex_dtype_path.proofs.path.FieldPath.resolve.Given as goal

abbrev pub invariant-loop-step : goal.invariant-loop-step
invariant-loop-step l = resolved (type_of l.part) (map step_of (drop l.step-index l.step-items)) ≡ resolved (type_of l.fn.dtype) (steps_of l.fn.self)
