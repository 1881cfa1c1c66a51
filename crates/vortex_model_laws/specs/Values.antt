-- Statements of the laws of zone maps of dictionaries and constants.
use Rattle.std.specs.Prelude.{◌≡◌, ◌↔◌, ◌<◌, ℕ, pos, ◌*ℤ◌, List, [], ◌∷◌, replicate, if◌then◌else◌, Contains, true, false}
use Rattle.vortex_model.specs.LogicalType.{LogicalType}
use Rattle.vortex_model.specs.Content.{Content, is_null}
use Rattle.vortex_model_table.specs.Typing.{sum_kind}
use Rattle.vortex_model_table.specs.Statistics.{exact, number_in}
use Rattle.vortex_model_table.specs.ZoneMap.{ZoneMap, low_of_values, high_of_values, sum_in, zone_of}

-- the non-null values of both lists are the same, however often each occurs
abbrev pub HoldTheSame : List Content → List Content → Type 0
HoldTheSame cs ds = (v : Content) → is_null v ≡ false → Contains cs v ↔ Contains ds v

-- Bounds depend on the set of values alone, so those of a dictionary's rows are those of the values
-- that its codes reference.
abbrev pub BoundsAreOfTheValues : Type 0
BoundsAreOfTheValues = (L : ℕ) (cs ds : List Content) → HoldTheSame cs ds →
    (low_of_values L cs ≡ low_of_values L ds) × (high_of_values L cs ≡ high_of_values L ds)

-- the zone map of n rows of one value has the bounds of one such row
pub record IsOfOneValue (k : LogicalType) (L n : ℕ) (c : Content) (z : ZoneMap) : Type 0 where
  pub low : z.low ≡ low_of_values L (c ∷ [])
  pub high : z.high ≡ high_of_values L (c ∷ [])
  pub nulls : z.nulls ≡ (if is_null c then n else 0)
  pub rows : z.rows ≡ n
  pub total : z.total ≡ sum_in (sum_kind k) (pos n *ℤ number_in c)
  pub constant : z.constant ≡ exact true

abbrev pub ConstantsHaveTheirZoneMap : Type 0
ConstantsHaveTheirZoneMap = (k : LogicalType) (L n : ℕ) (c : Content) → 0 < n →
    IsOfOneValue k L n c (zone_of k L (replicate n c))
