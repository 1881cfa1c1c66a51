-- Bounds of a leaf say what its zone map does.
use Rattle.std.proofs.Common.{◌≡◌, sym, ◌∙◌, ap, ℕ, pos, List, ◌==◌, Option, Some}
use Rattle.vortex_model.specs.LogicalType.{LogicalType}
use Rattle.vortex_model.specs.Content.{Content, boolean, integer}
use Rattle.vortex_model.specs.Path.{Names}
use Rattle.vortex_model_table.specs.Expression.{column, Aggregate, min, max, null_count, all_null, all_non_null}
use Rattle.vortex_model_table.specs.Statistics.{shown}
use Rattle.vortex_model_table.specs.ZoneMap.{ZoneMap, zone_of}
use Rattle.vortex_model_table.specs.Scan.{known, told}
use Rattle.vortex_stats_array.specs.declared.array_stats.ArrayStats.{ArrayStats}
use Rattle.vortex_stats_array.specs.Zones.{bound_content}
use Rattle.vortex_table_chunk.specs.zones.Bounds.{IsBoundsOf}
use Rattle.vortex_table_chunk.specs.zones.StatValue.{stat_value}

-- bounds that are those of a zone map say what it does
module _ (b : ArrayStats) (rows : ℕ) (z : ZoneMap) (low : bound_content b.min ≡ z.low) (high : bound_content b.max ≡ z.high) (nulls : b.null_count ≡ z.nulls)
    (xs : Names) (zones : Names → Option ZoneMap) (is : zones xs ≡ Some z) where
  abbrev as_told : Aggregate → Option ZoneMap → Content
  as_told a z = told z rows a

  pub stat_values_alike : (a : Aggregate) → stat_value b rows a ≡ known zones rows (column xs) a
  stat_values_alike min = ap shown low ∙ ap (as_told min) (sym is)
  stat_values_alike max = ap shown high ∙ ap (as_told max) (sym is)
  stat_values_alike null_count = ap (λ n. integer (pos n)) nulls ∙ ap (as_told null_count) (sym is)
  stat_values_alike all_null = ap (λ n. boolean (n == rows)) nulls ∙ ap (as_told all_null) (sym is)
  stat_values_alike all_non_null = ap (λ n. boolean (n == 0)) nulls ∙ ap (as_told all_non_null) (sym is)
  stat_values_alike a = ap (as_told a) (sym is)

-- so do those of a leaf's column
module _ (b : ArrayStats) (k : LogicalType) (L rows : ℕ) (cs : List Content) (honest : IsBoundsOf k L b cs) (xs : Names) (zones : Names → Option ZoneMap) (is : zones xs ≡ Some (zone_of k L cs)) where
  pub stat_values_are_right : (a : Aggregate) → stat_value b rows a ≡ known zones rows (column xs) a
  stat_values_are_right = stat_values_alike b rows (zone_of k L cs) (ap (λ z. z.low) honest.zone) (ap (λ z. z.high) honest.zone) (ap (λ z. z.nulls) honest.zone) xs zones is
