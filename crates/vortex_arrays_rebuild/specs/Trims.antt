-- A list view with the elements from one index to another.
use Rattle.std.specs.Prelude.{◌≡◌, ◌<◌, ◌≤◌, ◌+◌, ◌-◌, ℕ, pos, List, map}
use Rattle.vortex_model.specs.Content.{integer}
use Rattle.vortex_dtype_ptype.specs.Numbers.{NumberKind, integral, floating, Has}
use Rattle.vortex_arrays_model.specs.Layout.{Layout, numbers, required, list_views, len_of, array_type_of, content_at, number_in, IsSound}
use Rattle.vortex_arrays_model.specs.Parts.{valid_in}
use Rattle.vortex_arrays_model.specs.Picks.{Picks}
use Rattle.vortex_arrays_model.specs.Trimmed.{IsTrimmed}
use Rattle.vortex_arrays_nested.specs.Parts.{elements_of, offsets_of, sizes_of, is_flagged}

-- the offset and the end of list i of the view a
abbrev pub begin_of : Layout → ℕ → ℕ
begin_of a i = number_in (content_at (offsets_of a) i)

abbrev pub end_of : Layout → ℕ → ℕ
end_of a i = begin_of a i + number_in (content_at (sizes_of a) i)

-- each list of the view, null or not, is between two indices of the elements
pub record LieBetween (a : Layout) (from to : ℕ) : Type 0 where
  pub order : from ≤ to
  pub room : to ≤ len_of (elements_of a)
  pub begins : (i : ℕ) → i < len_of a → from ≤ begin_of a i
  pub ends : (i : ℕ) → i < len_of a → end_of a i ≤ to

-- r is the integers o lowered, in the same type
pub record IsLowered (o : Layout) (by : ℕ) (r : Layout) : Type 0 where
  pub sound : IsSound r
  pub many : len_of r ≡ len_of o
  pub moved : (i : ℕ) → i < len_of o → content_at r i ≡
      integer (pos (number_in (content_at o i) - by))
  pub kind : array_type_of r ≡ array_type_of o

-- r has these integers lowered, in this type
abbrev pub HasLowered : NumberKind → List ℕ → ℕ → Layout → Type 0
HasLowered (integral k) xs by r = IsSound r × (r ≡ numbers k (map (λ x. pos (x - by)) xs) required)
HasLowered (floating k) xs by r = ⊥

-- the type has the number
abbrev pub HasNatural : NumberKind → ℕ → Type 0
HasNatural k n = Has k (pos n)

-- r is the view a with only the elements between two indices, and offsets of the same type relative
-- to the first of them; sizes, flag and nulls stay; with all elements it is a
pub record HasElementsBetween (a : Layout) (from to : ℕ) (r : Layout) : Type 0 where
  pub elements : Layout
  pub offsets : Layout
  pub made : r ≡ list_views elements offsets (sizes_of a) (is_flagged a) (valid_in a)
  pub part : Picks (elements_of a) elements (to - from) (λ j. from + j)
  pub lowered : IsLowered (offsets_of a) from offsets
  pub whole : to - from ≡ len_of (elements_of a) → r ≡ a

-- r is the view a trimmed: the elements from the least offset to the greatest end, and offsets of
-- the same type; where no element is dropped, it is a
abbrev pub IsTrimmedView : Layout → Layout → Type 0
IsTrimmedView a r =
    IsTrimmed (elements_of a) (offsets_of a) (sizes_of a) (is_flagged a) (valid_in a) r
    × (array_type_of (offsets_of r) ≡ array_type_of (offsets_of a))
    × (len_of (elements_of r) ≡ len_of (elements_of a) → r ≡ a)
