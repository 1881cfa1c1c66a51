use Rattle.std.proofs.Common.{◌≡◌, drop, map}
use Rattle.vortex_model_table.specs.Command.{paths_fault}
use Rattle.vortex_dtype_core.specs.View.{type_of}
use Rattle.vortex_dtype_path.specs.View.{steps_of}
use Rattle.vortex_table_schema.proofs.part_index.check_each_by.Given as goal

abbrev pub invariant-loop-place : goal.invariant-loop-place
invariant-loop-place l =
    paths_fault l.place (type_of l.dtype) (map steps_of (drop l.place l.paths)) ≡ paths_fault 0 (type_of l.dtype) (map steps_of l.paths)
