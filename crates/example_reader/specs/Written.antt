-- Footers of tables.
use Rattle.std.specs.Prelude.{◌≡◌, ◌+◌, ℕ, List, [], ◌∷◌, length}
use Rattle.vortex_model.specs.Content.{Content}
use Rattle.vortex_model_table.specs.Table.{Table}
use Rattle.vortex_dtype_core.specs.View.{type_of}
use Rattle.vortex_arrays_model.specs.Layout.{array_type_of}
use Rattle.vortex_arrays_builder.specs.TooLarge.{AreTooLarge}
use Rattle.vortex_table_core.specs.GroupRows.{rows_of_group}
use Rattle.vortex_table_zones.specs.Types.{zone_type}
use Rattle.vortex_table_zones.specs.Zone.{IsZoneOf}
use Rattle.example_reader.specs.Zones.{IsHonestOf}
use Rattle.example_reader.specs.declared.footer.Footer.{Footer}

-- the zones are of the type of zones
abbrev pub IsTyped : Footer → Type 0
IsTyped f = array_type_of f.zones ≡ zone_type (type_of f.dtype)

-- it holds of each zone with the index of its group, where the first has this index
abbrev pub EachFrom : (ℕ → Content → Type 0) → ℕ → List Content → Type 0
EachFrom P i [] = Unit {0}
EachFrom P i (zone ∷ zones) = P i zone × EachFrom P (i + 1) zones

-- there is the zone of each group, in order
pub record AreZonesOf (t : Table) (zones : List Content) : Type 0 where
  pub each : length zones ≡ length t.groups
  pub in_order : EachFrom (IsZoneOf t) 0 zones

-- the bounds of a column are too large for an array
pub record HasTooLargeZones (t : Table) : Type 0 where
  pub zones : List Content
  pub are_zones : AreZonesOf t zones
  pub too_large : AreTooLarge (zone_type t.kind) zones

-- there is a zone for each group, in order, which is honest of the group's rows
pub record AreHonestOf (t : Table) (zones : List Content) : Type 0 where
  pub each : length zones ≡ length t.groups
  pub honest : EachFrom (λ i zone. IsHonestOf t.kind zone (rows_of_group t i)) 0 zones
