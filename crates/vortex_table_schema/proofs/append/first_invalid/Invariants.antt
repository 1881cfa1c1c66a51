use Rattle.std.proofs.Common.{◌≡◌, drop, map}
use Rattle.vortex_model_table.specs.Command.{first_invalid}
use Rattle.vortex_dtype_core.specs.View.{type_of}
use Rattle.vortex_scalar_value.specs.View.{raw_in}
use Rattle.vortex_table_schema.proofs.append.first_invalid.Given as goal

abbrev pub invariant-loop-index : goal.invariant-loop-index
invariant-loop-index l =
    first_invalid l.index (type_of l.dtype) (map raw_in (drop l.index l.values)) ≡ first_invalid 0 (type_of l.dtype) (map raw_in l.values)
