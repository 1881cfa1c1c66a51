use Rattle.std.proofs.Common.{◌≡◌, ◌++◌, All, map, drop}
use Rattle.vortex_dtype_core.specs.View.{type_of}
use Rattle.vortex_scalar_core.specs.Scalar.{scalar_type, scalar_content}
use Rattle.vortex_table_select.specs.Selected.{cut_rows, rows_in}
use Rattle.vortex_table_select.proofs.read.read_selections.Given as goal

-- the rows so far, and those of the selections that are left, are all
abbrev pub invariant-loop-selection : goal.invariant-loop-selection
invariant-loop-selection l = record {
  content : map scalar_content l.found.items ++ cut_rows l.cut (rows_in (drop l.selection-index l.selections)) ≡ cut_rows l.cut (rows_in l.selections);
  kind : All (λ row. scalar_type row ≡ type_of l.cut.dtype) l.found.items;
}
