use Rattle.std.proofs.Common.{◌≡◌, ◌++◌, drop}
use Rattle.vortex_dtype_core.specs.View.{type_of, fields_of}
use Rattle.vortex_dtype_core.proofs.Sizes.{type_size, fields_size}
use Rattle.vortex_table_schema.specs.Leaves.{leaves_among}
use Rattle.vortex_table_schema.proofs.leaves.+leaves.Given as goal

abbrev pub decreases-add_leaves : goal.decreases-add_leaves
decreases-add_leaves l = type_size (type_of l.dtype.now)

abbrev pub decreases-add_fields : goal.decreases-add_fields
decreases-add_fields l = fields_size (fields_of l.fields.now)

abbrev pub invariant-add_fields-loop-position : goal.invariant-add_fields-loop-position
invariant-add_fields-loop-position l =
    l.leaves.items ++ leaves_among l.here l.position (fields_of (drop l.position l.fields)) ≡ l.fn.leaves.items ++ leaves_among l.here 0 (fields_of l.fields)
