use Rattle.std.proofs.Common.{◌≡◌, drop, map}
use Rattle.vortex_model_table.specs.Command.{paths_fault}
use Rattle.vortex_dtype_core.specs.View.{type_of}
use Rattle.vortex_dtype_path.specs.View.{steps_of}
use Rattle.vortex_table_schema.proofs.check.check_each.Given as goal

abbrev pub invariant-loop-index : goal.invariant-loop-index
invariant-loop-index l =
    paths_fault l.index (type_of l.dtype) (map steps_of (drop l.index l.paths)) ≡ paths_fault 0 (type_of l.dtype) (map steps_of l.paths)
