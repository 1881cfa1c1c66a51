-- How the rows of chunks are laid out.
use Rattle.std.specs.Prelude.{◌≡◌, ◌⊎◌, List, [], ◌∷◌, ◌++◌, map}
use Rattle.vortex_model.specs.LogicalType.{LogicalType}
use Rattle.vortex_arrays_model.specs.Layout.{Layout}
use Rattle.vortex_table_layout.specs.Compacted.{IsCompactedAs}
use Rattle.vortex_table_layout.specs.Hinted.{HasHintedColumns}
use Rattle.vortex_table_layout.specs.HintedAnew.{IsHintedArray}
use Rattle.vortex_table_layout.specs.Kept.{KeepsLayout}
use Rattle.vortex_table_schema.specs.declared.layout.Layout as hint
use Rattle.vortex_table_core.specs.declared.table.Table.{Table}

-- the arrays of the chunks, in order
abbrev pub arrays_of : Table → List Layout
arrays_of t = map (λ c. c.array) t.chunks.items

-- the arrays are those of before, or one of this layout comes after them
abbrev pub AddsArray : (Layout → Type 0) → List Layout → List Layout → Type 0
AddsArray Has old new = (new ≡ old) ⊎ ((a : Layout) × (new ≡ old ++ a ∷ []) × Has a)

-- the array as a table of the type takes it: as it is where its layout is kept, and else plain
pub record IsTakenAs (k : LogicalType) (given taken : Layout) : Type 0 where
  pub kept : KeepsLayout k given → taken ≡ given
  pub plain : (¬ KeepsLayout k given) → HasHintedColumns [] taken

-- the array as a table of the type takes it with hints: with its columns laid out by them where its
-- layout is kept, and else its rows laid out by them
pub record IsTakenBy (k : LogicalType) (hints : List hint.Layout) (given taken : Layout) :
    Type 0 where
  pub kept : KeepsLayout k given → IsHintedArray hints given taken
  pub anew : (¬ KeepsLayout k given) → HasHintedColumns hints taken

-- one to one, the new arrays are the old ones compacted
abbrev pub AreAllCompacted : List Layout → List Layout → Type 0
AreAllCompacted [] [] = Unit {0}
AreAllCompacted (a ∷ old) (b ∷ new) = IsCompactedAs a b × AreAllCompacted old new
AreAllCompacted old new = ⊥
