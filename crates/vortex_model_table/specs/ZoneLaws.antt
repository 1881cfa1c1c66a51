-- Statements of the laws of statistics, and of zone maps of chunks and groups.
use Rattle.std.specs.Prelude.{◌≡◌, ◌↔◌, ℕ, List, ◌∷◌, length, map, filter, filter_map, sum, zip, flat_map, is_some, true}
use Rattle.std.specs.List.{AllByRecursion}
use Rattle.vortex_model.specs.LogicalType.{LogicalType}
use Rattle.vortex_model.specs.Content.{Content, equal_content}
use Rattle.vortex_model.specs.Valid.{IsContent}
use Rattle.vortex_model.specs.Kept.{is_leaf}
use Rattle.vortex_model_table.specs.Expression.{Expression}
use Rattle.vortex_model_table.specs.Truth.{selects}
use Rattle.vortex_model_table.specs.Statistics.{IsHonest}
use Rattle.vortex_model.specs.Order.{content_cmp}
use Rattle.vortex_model_table.specs.ZoneMap.{ZoneMap, value_in, group_low, group_high, group_nulls, group_rows, group_bounds, Joins, all_joined, made_by, zone_of, zone_of_group, statistics_of}
use Rattle.vortex_model_table.specs.Sound.{AreHonest}
use Rattle.vortex_model_table.specs.Table.{Table, IsTable, rows_of}
use Rattle.vortex_model_table.specs.Scan.{chunk_zone, group_zone, known, outcomes}
use Rattle.vortex_model_table.specs.Pruning.{found_in, IsAsked}

-- `equal_content` passes exactly equal contents
abbrev pub EqualityOfContentsIsRight : Type 0
EqualityOfContentsIsRight = (c d : Content) → (equal_content c d ≡ true) ↔ (c ≡ d)

-- the zone map that a scan uses for a group is honest over all rows of its chunks
abbrev pub GroupBoundsAreHonest : Type 0
GroupBoundsAreHonest = (k : LogicalType) (L : ℕ) (chunks : List (List Content)) → is_leaf k ≡ true →
    AllByRecursion (λ chunk. AllByRecursion (IsContent k) chunk) chunks →
    IsHonest (statistics_of (group_bounds (map (zone_of k L) chunks)))
    (flat_map (λ chunk. chunk) chunks)

-- the placeholders that a scan knows of a chunk are honest over its rows, and those of a group over
-- the rows of its chunks
abbrev pub ChunkBindersAreHonest : Type 0
ChunkBindersAreHonest =
    (t : Table) (chunk : List Content) → AllByRecursion (IsContent t.kind) chunk →
    AreHonest t.kind chunk (known (chunk_zone t chunk) (length chunk))

abbrev pub GroupBindersAreHonest : Type 0
GroupBindersAreHonest = (t : Table) (chunks : List (List Content)) →
    AllByRecursion (λ chunk. AllByRecursion (IsContent t.kind) chunk) chunks →
    AreHonest t.kind (flat_map (λ chunk. chunk) chunks)
    (known (group_zone t chunks) (sum (map length chunks)))

-- what a scan takes by the outcomes of chunks and groups is what a plain filter finds
abbrev pub SkippingGroupsLosesNone : Type 0
SkippingGroupsLosesNone = (t : Table) (e : Expression) → IsAsked t e → IsTable t →
    filter (selects t.kind e) (rows_of t) ≡
    flat_map (λ pair. found_in (selects t.kind e) pair.0 pair.1) (zip (outcomes t e) t.chunks)

-- any two of the values compare
abbrev pub AllCompare : List Content → Type 0
AllCompare cs = AllByRecursion (λ c. AllByRecursion (λ d. is_some (content_cmp c d) ≡ true) cs) cs

-- the zone map has the bounds and the counts of the group of `zones`
pub record HasBoundsOf (zones : List ZoneMap) (z : ZoneMap) : Type 0 where
  pub low : z.low ≡ group_low zones
  pub high : z.high ≡ group_high zones
  pub nulls : z.nulls ≡ group_nulls zones
  pub rows : z.rows ≡ group_rows zones

-- joins of zone maps whose bounds compare give the bounds and the counts of the group, in whatever
-- order they are made
abbrev pub JoinsGiveTheBounds : Type 0
JoinsGiveTheBounds = (k : LogicalType) (joins : Joins) →
    AllCompare (filter_map value_in (map (λ z. z.low) (all_joined joins))) →
    AllCompare (filter_map value_in (map (λ z. z.high) (all_joined joins))) →
    HasBoundsOf (all_joined joins) (made_by k joins)

-- joins of the zone maps of a leaf column give the bounds and the counts of the group
abbrev pub JoinsOfAColumnGiveTheBounds : Type 0
JoinsOfAColumnGiveTheBounds =
    (k : LogicalType) (L : ℕ) (chunks : List (List Content)) (joins : Joins) → is_leaf k ≡ true →
    AllByRecursion (λ chunk. AllByRecursion (IsContent k) chunk) chunks →
    all_joined joins ≡ map (zone_of k L) chunks →
    HasBoundsOf (map (zone_of k L) chunks) (made_by k joins)

-- a group whose chunks are joined from the left has the bounds and the counts of the group
abbrev pub GroupsJoinedFromTheLeftHaveTheBounds : Type 0
GroupsJoinedFromTheLeftHaveTheBounds =
    (k : LogicalType) (L : ℕ) (chunk : List Content) (chunks : List (List Content)) →
    is_leaf k ≡ true →
    AllByRecursion (λ cs. AllByRecursion (IsContent k) cs) (chunk ∷ chunks) →
    HasBoundsOf (map (zone_of k L) (chunk ∷ chunks))
    (zone_of_group k (map (zone_of k L) (chunk ∷ chunks)))
