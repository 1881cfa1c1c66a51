-- Bounds of the leaves of rows.
use Rattle.std.specs.Prelude.{refl, ℕ, ℤ, List, [], ◌∷◌, Bool, true, false, ◌&&◌}
use Rattle.std.specs.Coded.{Coded, Coded-set, code_by, coded×, coded_ℕ, coded_ℤ, coded_bool}
use Rattle.vortex_model.specs.Content.{Content}
use Rattle.vortex_model.specs.Path.{Positions}
use Rattle.vortex_model.specs.LogicalType.{LogicalType}
use Rattle.vortex_model_table.specs.Scan.{kind_at}
use Rattle.vortex_model_table.specs.Statistics.{Precision}
use Rattle.vortex_model_table.specs.ZoneMap.{ZoneMap, values_at}
use Rattle.vortex_table_chunk.specs.zones.Bounds.{IsBoundsOf}
use Rattle.vortex_stats_array.specs.declared.array_stats.ArrayStats.{ArrayStats}
use Rattle.vortex_table_chunk.specs.BoundCode.{coded_bound, coded_precision}
use Rattle.vortex_table_chunk.specs.zones.Typed.{is_typed_as}

-- one to one, the statistics are those of the leaves at these positions in rows of a type, each at
-- its bound length
abbrev pub AreBoundsOf : LogicalType → List ℕ → List Positions → List ArrayStats → List Content →
    Type 0
AreBoundsOf k [] [] [] rows = Unit {0}
AreBoundsOf k (L ∷ lengths) (is ∷ leaves) (b ∷ bounds) rows =
    IsBoundsOf (kind_at k is) L b (values_at is rows) × AreBoundsOf k lengths leaves bounds rows
AreBoundsOf k lengths leaves bounds rows = ⊥

-- one to one, the statistics are of the types of a type's leaves at these positions
abbrev pub are_typed_at : LogicalType → List Positions → List ArrayStats → Bool
are_typed_at k [] [] = true
are_typed_at k (is ∷ leaves) (b ∷ bounds) =
    is_typed_as (kind_at k is) b && are_typed_at k leaves bounds
are_typed_at k leaves bounds = false

-- the parts of a zone map
abbrev pub Parts : Type 0
Parts = Precision Content × (Precision Content × (ℕ × (ℕ × (Precision ℤ × Precision Bool))))

abbrev pub zone_parts : ZoneMap → Parts
zone_parts z = (z.low, (z.high, (z.nulls, (z.rows, (z.total, z.constant)))))

abbrev pub zone_of_parts : Parts → ZoneMap
zone_of_parts p = record {
  low = p.0;
  high = p.1.0;
  nulls = p.1.1.0;
  rows = p.1.1.1.0;
  total = p.1.1.1.1.0;
  constant = p.1.1.1.1.1;
}

abbrev pub coded_zone : Coded ZoneMap
coded_zone =
    code_by Parts
    (coded× coded_bound (coded× coded_bound (coded× coded_ℕ (coded× coded_ℕ
    (coded× (coded_precision coded_ℤ) (coded_precision coded_bool))))))
    zone_parts zone_of_parts (λ z. refl)

pub IsBoundsOf-prop : (k : LogicalType) (L : ℕ) (b : ArrayStats) (cs : List Content) →
    IsProp (IsBoundsOf k L b cs)
IsBoundsOf-prop k L b cs = λ p q i. record {
  zone = Coded-set coded_zone _ _ p.zone q.zone i;
  kind = Coded-set coded_bool _ _ p.kind q.kind i;
}

pub AreBoundsOf-prop : (k : LogicalType) (lengths : List ℕ) (leaves : List Positions)
    (bounds : List ArrayStats) (rows : List Content) →
    IsProp (AreBoundsOf k lengths leaves bounds rows)
AreBoundsOf-prop k [] [] [] rows = λ p q i. tt
AreBoundsOf-prop k (L ∷ lengths) (is ∷ leaves) (b ∷ bounds) rows =
    λ p q i. (
      IsBoundsOf-prop (kind_at k is) L b (values_at is rows) p.0 q.0 i,
      AreBoundsOf-prop k lengths leaves bounds rows p.1 q.1 i,
    )
AreBoundsOf-prop k lengths leaves bounds rows = λ p q. absurd p
