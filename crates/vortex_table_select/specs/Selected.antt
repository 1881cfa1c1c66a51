-- The rows that a scan finds among rows as they are stored.
use Rattle.std.specs.Prelude.{◌≡◌, List, map, filter, flat_map, All, Bool, true, IsTrue}
use Rattle.vortex_model.specs.LogicalType.{LogicalType}
use Rattle.vortex_model.specs.Content.{Content, Raw}
use Rattle.vortex_model_table.specs.Truth.{is_true}
use Rattle.vortex_model.specs.Valid.{valid}
use Rattle.vortex_model_table.specs.Scan.{ScanAnswer}
use Rattle.vortex_dtype_core.specs.View.{type_of}
use Rattle.vortex_arrays_model.specs.Layout.{array_type_of, content_at}
use Rattle.vortex_stats_bind.specs.Bound.{Bound, bound_value}
use Rattle.vortex_table_schema.specs.Cut.{tree_of, content_cut, raw_cut}
use Rattle.vortex_table_schema.specs.declared.cut.RowProjection.{RowProjection}
use Rattle.vortex_table_select.specs.declared.selection.Selection.{Selection}
use Rattle.vortex_table_select.specs.declared.selection.ScanSelection.{ScanSelection}
use Rattle.vortex_table_select.specs.declared.selection.LazyAnswer.{LazyAnswer}

-- the bound predicate is true of the row
abbrev pub is_selected : Bound → Content → Bool
is_selected predicate row = is_true (bound_value predicate row)

-- the rows, cut
abbrev pub cut_rows : RowProjection → List Content → List Content
cut_rows cut rows = map (content_cut (tree_of cut.projection)) rows

abbrev pub selected_rows : Bound → List Content → List Content
selected_rows predicate rows = filter (is_selected predicate) rows

-- each value of the type can be cut to one of the cut's type
abbrev pub CanBeCut : RowProjection → LogicalType → Type 0
CanBeCut cut k = (r : Raw) → valid k r ≡ true →
    IsTrue (valid (type_of cut.dtype) (raw_cut (tree_of cut.projection) r))

-- ---- rows by their positions

abbrev pub rows_at : Selection → List Content
rows_at s = map (content_at s.array) s.rows.items

-- the rows of each, one after another
abbrev pub rows_in : List Selection → List Content
rows_in selections = flat_map rows_at selections

-- each is of rows of this type
abbrev pub AreOfType : LogicalType → List Selection → Type 0
AreOfType k selections = All (λ s. array_type_of s.array ≡ k) selections

-- the answer whose rows are these, cut
abbrev pub answer_cut : RowProjection → ScanSelection → ScanAnswer
answer_cut cut s = record {
  rows = cut_rows cut (rows_in s.selections.items);
  kind = type_of cut.dtype;
  skipped = s.skipped.items;
  whole = s.whole.items;
  rows_tested = s.rows_tested;
  proofs = s.proofs;
}

abbrev pub answer_in : LazyAnswer → ScanAnswer
answer_in a = answer_cut a.cut a.selection
