-- Rows of a type that a table holds, and what paths ask for of them.
use Rattle.std.proofs.Common.{◌≡◌, refl, List, [], ◌∷◌, map, filter, cond, Bool, true, false}
use Rattle.std.specs.List.{AllByRecursion}
use Rattle.vortex_model.specs.LogicalType.{LogicalType}
use Rattle.vortex_model.specs.Content.{Content}
use Rattle.vortex_model.specs.Path.{Names}
use Rattle.vortex_model_table.specs.Cut.{cut_row}
use Rattle.vortex_table_schema.specs.Cut.{content_cut, kept_by}

module _ (k : LogicalType) (paths : List Names) where
  abbrev keep : Content → Content
  keep = content_cut (kept_by paths k)

  -- the row is cut to what the paths keep of it
  abbrev pub IsCut : Content → Type 0
  IsCut c = keep c ≡ cut_row paths k c

  each_way : (b : Bool) (c : Content) (cs : List Content) → IsCut c → map keep cs ≡ map (cut_row paths k) cs → map keep (cond b (c ∷ cs) cs) ≡ map (cut_row paths k) (cond b (c ∷ cs) cs)
  each_way true c cs h g = λ i. h i ∷ g i
  each_way false c cs h g = g

  pub kept_each : (p : Content → Bool) (rows : List Content) → AllByRecursion IsCut rows → map keep (filter p rows) ≡ map (cut_row paths k) (filter p rows)
  kept_each p [] h = refl
  kept_each p (row ∷ rows) h = each_way (p row) row (filter p rows) h.0 (kept_each p rows h.1)

  pub kept_all : (rows : List Content) → AllByRecursion IsCut rows → map keep rows ≡ map (cut_row paths k) rows
  kept_all [] h = refl
  kept_all (row ∷ rows) h = λ i. h.0 i ∷ kept_all rows h.1 i
