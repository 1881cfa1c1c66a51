use Rattle.std.proofs.Common.{◌≡◌, ◌++◌, drop, map}
use Rattle.vortex_model_table.specs.Command.{names_of}
use Rattle.vortex_dtype_path.specs.View.{step_of}
use Rattle.vortex_table_schema.proofs.leaf.names_of.Given as goal

abbrev pub invariant-loop-step : goal.invariant-loop-step
invariant-loop-step l =
    l.names.items ++ names_of (map step_of (drop l.step-index l.step-items)) ≡ names_of (map step_of l.step-items)
