-- Ranges that the integers of columns are within.
use Rattle.std.specs.Prelude.{◌≡◌, ◌<◌, ◌≤ℤ◌, ℕ, ℤ, pos, List, length, drop, slice_index_or, Option, Some, None, Bool, false, ◌&&◌, ◌==◌, nat_lt}
use Rattle.std.specs.List.{All}
use Rattle.vortex_model.specs.LogicalType.{IntKind}
use Rattle.vortex_model.specs.Content.{Content, null, integer}
use Rattle.vortex_model.specs.Path.{at}
use Rattle.vortex_model.specs.Valid.{in_range}
use Rattle.vortex_arrays_model.specs.Layout.{Layout, len_of, content_at}
use Rattle.vortex_arrays_cast.specs.declared.ranges.LeafRange.{LeafRange}

-- null, or an integer from low to high
abbrev pub IsBetween : ℤ → ℤ → Content → Type 0
IsBetween low high null = Unit {0}
IsBetween low high (integer z) = (low ≤ℤ z) × (z ≤ℤ high)
IsBetween low high c = ⊥

-- each of n contents has null or an integer of the range at the leaf's positions, of which the
-- first d lead to the contents
abbrev pub IsRangeIn : ℕ → ℕ → (ℕ → Content) → LeafRange → Type 0
IsRangeIn d n f r =
    (i : ℕ) → i < n → IsBetween r.low r.high (at (f i) (drop d r.positions.now))

-- the ranges are of leaves in a column d steps down
abbrev pub AreRangesOf : ℕ → Layout → List LeafRange → Type 0
AreRangesOf d a ranges = All (IsRangeIn d (len_of a) (content_at a)) ranges

-- the rows of a column are within the range, if there is one
abbrev pub LieIn : Option (ℤ × ℤ) → Layout → Type 0
LieIn None a = Unit {0}
LieIn (Some range) a = (i : ℕ) → i < len_of a → IsBetween range.0 range.1 (content_at a i)

-- the leaf is in the field at this index, of structs d steps down
abbrev pub stands_in : ℕ → ℕ → LeafRange → Bool
stands_in d index r = nat_lt d (length r.positions.now) && (slice_index_or r.positions.now d 0 == index)

-- there is a range, and the type has all of it
abbrev pub holds_range : IntKind → Option (ℤ × ℤ) → Bool
holds_range k None = false
holds_range k (Some range) = in_range k range.0 && in_range k range.1

-- the same integers, except outside of the range
pub record KeepsRange (low high : ℤ) (zs ws : List ℤ) : Type 0 where
  pub many : length ws ≡ length zs
  pub each : (i : ℕ) → i < length zs → low ≤ℤ slice_index_or zs i (pos 0) →
      slice_index_or zs i (pos 0) ≤ℤ high →
      slice_index_or ws i (pos 0) ≡ slice_index_or zs i (pos 0)

-- the same integers, at least within the range, if there is one
abbrev pub Keeps : Option (ℤ × ℤ) → List ℤ → List ℤ → Type 0
Keeps None zs ws = ws ≡ zs
Keeps (Some range) zs ws = KeepsRange range.0 range.1 zs ws
