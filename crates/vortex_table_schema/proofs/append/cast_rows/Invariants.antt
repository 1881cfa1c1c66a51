use Rattle.std.proofs.Common.{◌≡◌, ◌++◌, drop, map, length, None, IsTrue}
use Rattle.std.specs.Cow.{cow_slice_items}
use Rattle.std.specs.List.{list_all}
use Rattle.vortex_model.specs.Content.{content_of}
use Rattle.vortex_model.specs.Valid.{valid}
use Rattle.vortex_model_table.specs.Command.{first_invalid, first_unconvertible}
use Rattle.vortex_dtype_core.specs.View.{type_of}
use Rattle.vortex_scalar_value.specs.View.{raw_of, raw_in}
use Rattle.vortex_table_schema.specs.Rows.{row_content}
use Rattle.vortex_table_schema.proofs.append.cast_rows.Given as goal

-- of the values as they are now, since those that were read may be freed
abbrev pub invariant-loop-index : goal.invariant-loop-index
invariant-loop-index l = record {
  size : length (cow_slice_items l.values) ≡ l.len;
  content : map row_content l.rows.items ++ map content_of (map raw_in (drop l.index (cow_slice_items l.values))) ≡ map content_of (map raw_in (cow_slice_items l.fn.values));
  sources : first_invalid 0 (type_of l.source) (map raw_in (drop l.index (cow_slice_items l.values))) ≡ None;
  valid : IsTrue (list_all (λ row. valid (type_of l.target) (raw_of row)) l.rows.items);
  left : first_unconvertible (length l.rows.items) (type_of l.source) (type_of l.target) (map content_of (map raw_in (drop l.index (cow_slice_items l.values))))
      ≡ first_unconvertible 0 (type_of l.source) (type_of l.target) (map content_of (map raw_in (cow_slice_items l.fn.values)));
}
