-- Statements of the laws of which chunks are skipped.
use Rattle.std.specs.Prelude.{◌≡◌, ◌↔◌, ◌<◌, List, ◌∷◌, ◌++◌, length, true, false, Contains}
use Rattle.std.specs.List.{AllByRecursion}
use Rattle.vortex_model.specs.Content.{Content, boolean}
use Rattle.vortex_model.specs.Valid.{IsContent}
use Rattle.vortex_model.specs.Path.{Names}
use Rattle.vortex_model_table.specs.Expression.{Expression}
use Rattle.vortex_model_table.specs.Truth.{evaluate}
use Rattle.vortex_model_table.specs.Rewrite.{falsifier}
use Rattle.vortex_model_table.specs.Table.{Table, IsTable}
use Rattle.vortex_model_table.specs.Scan.{chunk_zone, proves, skipped_chunks}
use Rattle.vortex_model_table.specs.Pruning.{IsAsked}
use Rattle.vortex_model_table.specs.Class.{Box, box_of, IsIn, of_choice, Hopeless, is_wide, is_bounded}

-- the box of a chunk's zone maps
abbrev pub box_of_chunk : Table → List Content → Box
box_of_chunk t chunk = box_of (chunk_zone t chunk)

-- a choice of values in the box that makes the predicate true
pub record SomeChoice (t : Table) (e : Expression) (chunk : List Content) : Type 0 where
  pub choice : Names → Content
  pub inside : IsIn t.kind (box_of_chunk t chunk) choice e
  pub holds : evaluate (of_choice choice) e ≡ boolean true

-- There is such a choice where a chunk with rows has both bounds of each column outside null tests,
-- the predicate is of the wide class, and the falsifier isn't true by the chunk's zone maps.
abbrev pub FalsifiersAreComplete : Type 0
FalsifiersAreComplete = (t : Table) (e : Expression) (chunk : List Content) → IsAsked t e →
    AllByRecursion (IsContent t.kind) chunk → 0 < length chunk → is_wide e ≡ true →
    is_bounded (box_of_chunk t chunk) e ≡ true →
    proves (chunk_zone t chunk) (length chunk) (falsifier t.kind e) ≡ false → SomeChoice t e chunk

-- A chunk that has these bounds is skipped, alone or with its group, exactly where its box is
-- hopeless.
abbrev pub ExactlyTheHopelessAreSkipped : Type 0
ExactlyTheHopelessAreSkipped = (t : Table) (e : Expression) (before : List (List Content))
    (chunk : List Content) (after : List (List Content)) → IsTable t → IsAsked t e →
    is_wide e ≡ true → t.chunks ≡ before ++ chunk ∷ after →
    is_bounded (box_of_chunk t chunk) e ≡ true →
    Contains (skipped_chunks t e) (length before) ↔ Hopeless t.kind e (box_of_chunk t chunk)
