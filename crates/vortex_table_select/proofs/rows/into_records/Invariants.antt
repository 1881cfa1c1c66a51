use Rattle.std.proofs.Common.{◌≡◌, ◌+◌, ◌++◌, drop, length, map}
use Rattle.std.specs.Vec.Iter.{into_iter_items}
use Rattle.vortex_scalar_value.specs.View.{raw_in}
use Rattle.vortex_arrays_core.specs.LayoutOf.{valid_of}
use Rattle.vortex_table_select.specs.Lists.{lists_of, record_values}
use Rattle.vortex_table_select.proofs.rows.into_records.Given as goal

-- the records so far, and those of the lists that are left, are all
abbrev pub invariant-loop-list : goal.invariant-loop-list
invariant-loop-list l = record {
  many : length l.values.items + length (into_iter_items l.list-iterator) ≡ length l.rows;
  made : map raw_in l.values.items ++ record_values (valid_of l.validity) (lists_of (into_iter_items l.list-iterator)) (drop (length l.values.items) l.rows)
      ≡ record_values (valid_of l.validity) (lists_of l.fn.lists.items) l.rows;
}
