-- The leaf columns that are kept of rows.
use Rattle.std.specs.Prelude.{◌≡◌, List, [], ◌∷◌, Option, Some, None}
use Rattle.std.specs.Coded.{Coded-set, coded_list}
use Rattle.vortex_model.specs.Content.{Content}
use Rattle.vortex_model.specs.Path.{Positions}
use Rattle.vortex_model_table.specs.ZoneMap.{values_at}
use Rattle.vortex_stats_select.specs.Leaves.{leaf_rows}
use Rattle.vortex_stats_select.specs.declared.leaf.Leaf.{Leaf}
use Rattle.vortex_table_chunk.specs.BoundCode.{coded_content}

-- a column that is kept has these values
abbrev pub IsKeptOf : Option Leaf → List Content → Type 0
IsKeptOf None values = Unit {0}
IsKeptOf (Some leaf) values = leaf_rows leaf ≡ values

-- one by one, the columns are those of the rows' leaves at these positions; the last may be missing
abbrev pub AreKeptOf : List Positions → List (Option Leaf) → List Content → Type 0
AreKeptOf leaves [] rows = Unit {0}
AreKeptOf (is ∷ leaves) (column ∷ columns) rows =
    IsKeptOf column (values_at is rows) × AreKeptOf leaves columns rows
AreKeptOf [] (column ∷ columns) rows = ⊥

pub IsKeptOf-prop : (column : Option Leaf) (values : List Content) → IsProp (IsKeptOf column values)
IsKeptOf-prop None values = λ p q i. tt
IsKeptOf-prop (Some leaf) values = λ p q i. Coded-set (coded_list coded_content) _ _ p q i

pub AreKeptOf-prop : (leaves : List Positions) (columns : List (Option Leaf)) (rows : List Content) →
    IsProp (AreKeptOf leaves columns rows)
AreKeptOf-prop leaves [] rows = λ p q i. tt
AreKeptOf-prop (is ∷ leaves) (column ∷ columns) rows =
    λ p q i. (
      IsKeptOf-prop column (values_at is rows) p.0 q.0 i,
      AreKeptOf-prop leaves columns rows p.1 q.1 i,
    )
AreKeptOf-prop [] (column ∷ columns) rows = λ p q. absurd p
