-- Zone maps of zones by leaf.
use Rattle.std.specs.Prelude.{◌<◌, ℕ, List, length, map, slice_index_or}
use Rattle.vortex_model_table.specs.Expression.{min, max, null_count}
use Rattle.vortex_table_zonemaps.specs.Column.{IsColumnOf, IsColumnOf-prop}
use Rattle.vortex_table_zonemaps.specs.Stats.{Zone, leaf_stat, rows_stat}
use Rattle.vortex_table_zonemaps.specs.declared.leaf.LeafZones.{LeafZones}
use Rattle.vortex_table_zonemaps.specs.declared.zone_maps.ZoneMaps.{ZoneMaps}

-- the columns are of the leaf at this index in these zones
pub record IsLeaf (j : ℕ) (leaf : LeafZones) (zones : List Zone) : Type 0 where
  pub lows : IsColumnOf leaf.lows (map (leaf_stat j min) zones)
  pub highs : IsColumnOf leaf.highs (map (leaf_stat j max) zones)
  pub null_counts : IsColumnOf leaf.null_counts (map (leaf_stat j null_count) zones)

-- each has the columns of the leaf at its index
abbrev pub AreLeaves : List LeafZones → List Zone → Type 0
AreLeaves leaves zones = (j : ℕ) (leaf : LeafZones) → j < length leaves →
    IsLeaf j (slice_index_or leaves j leaf) zones

-- this is held of these zones
pub record AreZoneMaps (maps : ZoneMaps) (zones : List Zone) : Type 0 where
  pub leaves : AreLeaves maps.leaves.items zones
  pub rows : IsColumnOf maps.rows (map rows_stat zones)

-- ---- at most one proof of each

IsLeaf-prop : (j : ℕ) (leaf : LeafZones) (zones : List Zone) → IsProp (IsLeaf j leaf zones)
IsLeaf-prop j leaf zones = λ p q i. record {
  lows = IsColumnOf-prop leaf.lows (map (leaf_stat j min) zones) p.lows q.lows i;
  highs = IsColumnOf-prop leaf.highs (map (leaf_stat j max) zones) p.highs q.highs i;
  null_counts = IsColumnOf-prop leaf.null_counts (map (leaf_stat j null_count) zones)
      p.null_counts q.null_counts i;
}

pub AreZoneMaps-prop : (maps : ZoneMaps) (zones : List Zone) → IsProp (AreZoneMaps maps zones)
AreZoneMaps-prop maps zones = λ p q i. record {
  leaves = λ j leaf h. IsLeaf-prop j (slice_index_or maps.leaves.items j leaf) zones
      (p.leaves j leaf h) (q.leaves j leaf h) i;
  rows = IsColumnOf-prop maps.rows (map rows_stat zones) p.rows q.rows i;
}
