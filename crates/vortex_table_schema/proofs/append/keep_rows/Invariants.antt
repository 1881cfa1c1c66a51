use Rattle.std.proofs.Common.{◌≡◌, ◌++◌, map, None, IsTrue}
use Rattle.std.specs.List.{list_all}
use Rattle.std.specs.Vec.Iter.{into_iter_items}
use Rattle.vortex_model.specs.Content.{content_of}
use Rattle.vortex_model.specs.Valid.{valid}
use Rattle.vortex_model_table.specs.Command.{first_invalid}
use Rattle.vortex_dtype_core.specs.View.{type_of}
use Rattle.vortex_scalar_value.specs.View.{raw_of, raw_in}
use Rattle.vortex_table_schema.specs.Rows.{row_content}
use Rattle.vortex_table_schema.proofs.append.keep_rows.Given as goal

-- the rows so far, and those that are left, are all
abbrev pub invariant-loop-value : goal.invariant-loop-value
invariant-loop-value l = record {
  content : map row_content l.rows.items ++ map content_of (map raw_in (into_iter_items l.value-iterator)) ≡ map content_of (map raw_in l.fn.values.items);
  sources : first_invalid 0 (type_of l.dtype) (map raw_in (into_iter_items l.value-iterator)) ≡ None;
  valid : IsTrue (list_all (λ row. valid (type_of l.dtype) (raw_of row)) l.rows.items);
}
