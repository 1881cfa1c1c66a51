use Rattle.std.proofs.Common.{◌≡◌, ◌++◌, map}
use Rattle.std.specs.Vec.Iter.{into_iter_items}
use Rattle.serde_json.specs.View.{items_view}
use Rattle.vortex_dtype_core.specs.View.{type_of}
use Rattle.vortex_scalar_value.specs.View.{raw_in}
use Rattle.vortex_table_request.specs.Rows.{rows_at}
use Rattle.vortex_table_request.proofs.rows.read_rows.Given as goal

-- the rows so far and those of the rest are the rows of all
abbrev pub invariant-loop-item : goal.invariant-loop-item
invariant-loop-item l =
    map raw_in l.rows.items ++ rows_at (type_of l.dtype) (items_view (into_iter_items l.item-iterator)) ≡ rows_at (type_of l.dtype) (items_view l.fn.items.items)
