-- What a clone of an answer with unread rows has.
use Rattle.std.specs.Prelude.{◌≡◌}
use Rattle.std.specs.List.{AllZip}
use Rattle.vortex_dtype_core.specs.View.{type_of}
use Rattle.vortex_table_schema.specs.Cut.{tree_of}
use Rattle.vortex_table_select.specs.declared.selection.LazyAnswer.{LazyAnswer}
use Rattle.vortex_table_select.specs.declared.selection.ScanSelection.{ScanSelection}
use Rattle.vortex_table_select.specs.declared.selection.Selection.{Selection}

-- the same rows of the same array
abbrev pub IsSameSelection : Selection → Selection → Type 0
IsSameSelection old new = (new.array ≡ old.array) × (new.rows.items ≡ old.rows.items)

-- the same rows of the same arrays, and the same counts
pub record AreSameRows (old new : ScanSelection) : Type 0 where
  pub selections : AllZip IsSameSelection old.selections.items new.selections.items
  pub skipped : new.skipped.items ≡ old.skipped.items
  pub whole : new.whole.items ≡ old.whole.items
  pub rows_tested : new.rows_tested ≡ old.rows_tested
  pub proofs : new.proofs ≡ old.proofs

-- both answer the same parts of the same rows
pub record IsSameAnswer (old new : LazyAnswer) : Type 0 where
  pub dtype : type_of new.cut.dtype ≡ type_of old.cut.dtype
  pub projection : tree_of new.cut.projection ≡ tree_of old.cut.projection
  pub selection : AreSameRows old.selection new.selection
