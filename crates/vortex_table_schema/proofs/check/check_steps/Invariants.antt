use Rattle.std.proofs.Common.{◌≡◌, drop, map}
use Rattle.vortex_model_table.specs.Command.{path_fault}
use Rattle.vortex_dtype_core.specs.View.{type_of}
use Rattle.vortex_dtype_path.specs.View.{step_of}
use Rattle.vortex_table_schema.proofs.check.check_steps.Given as goal

abbrev pub invariant-loop-step : goal.invariant-loop-step
invariant-loop-step l =
    path_fault l.index (type_of l.current) (map step_of (drop l.step-index l.steps)) ≡ path_fault l.index (type_of l.dtype) (map step_of l.steps)
