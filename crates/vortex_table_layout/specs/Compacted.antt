-- Arrays whose list views are rebuilt.
use Rattle.std.specs.Prelude.{◌≡◌, ◌<◌, ◌≤◌, ◌^◌, ◌⊎◌, ◌&&◌, ℕ, List, length, slice_index_or, cond, Bool, true, false, IsFalse}
use Rattle.vortex_arrays_view.specs.declared.error.ArrayError.{ArrayError}
use Rattle.vortex_arrays_view.specs.declared.error.ArrayError.TheVariants as error
use Rattle.vortex_arrays_model.specs.Layout.{Layout, list_views, records, Valid, Columns, no_columns, column, len_of, array_type_of, content_at, number_in, is_valid, rows_of}
use Rattle.vortex_arrays_model.specs.Canonical.{counts, IsRebuilt}
use Rattle.vortex_arrays_rebuild.specs.Rebuilds.{total_of}
use Rattle.vortex_table_layout.specs.TooManyElements.{HasTooManyElements}

-- b is a with each list view that is reached only through structs rebuilt: one that is flagged or
-- has no rows is unchanged, and any other is end to end and flagged.
abbrev mutual
  pub IsCompacted : Layout → Layout → Type 0
  IsCompacted (list_views e o s f v) b = IsRebuilt e o s f v b
  IsCompacted (records cs n v) (records ds m w) = (m ≡ n) × (w ≡ v) × AreCompacted cs ds
  IsCompacted (records cs n v) b = ⊥
  IsCompacted a b = b ≡ a

  pub AreCompacted : Columns → Columns → Type 0
  AreCompacted no_columns no_columns = Unit {0}
  AreCompacted (column x a cs) (column y b ds) = (y ≡ x) × IsCompacted a b × AreCompacted cs ds
  AreCompacted cs ds = ⊥

-- An unflagged list view that is reached only through structs has 2^64 items or more, rows in null
-- structs included.
abbrev mutual
  pub HasTooManyItems : Layout → Type 0
  HasTooManyItems (list_views e o s f v) =
      IsFalse f × (2 ^ 64 ≤ total_of (rows_of (list_views e o s f v)))
  HasTooManyItems (records cs n v) = HaveTooManyItems cs
  HasTooManyItems a = ⊥

  pub HaveTooManyItems : Columns → Type 0
  HaveTooManyItems no_columns = ⊥
  HaveTooManyItems (column x a cs) = HasTooManyItems a ⊎ HaveTooManyItems cs

-- b is the unflagged list view of these parts, with its lists empty where they are not seen
pub record HasSeenLists (seen : ℕ → Bool) (e o s : Layout) (v : Valid) (b : Layout) : Type 0 where
  pub sizes : List ℕ
  pub made : b ≡ list_views e o (counts sizes) false v
  pub many : length sizes ≡ len_of s
  pub size : (i : ℕ) → i < len_of s → slice_index_or sizes i 0 ≡
      cond (seen i) (number_in (content_at s i)) 0

-- b is a with the lists in null structs emptied, in each unflagged list view that is reached only
-- through structs. seen i says that no struct above row i is null.
abbrev mutual
  pub IsShown : (ℕ → Bool) → Layout → Layout → Type 0
  IsShown seen (list_views e o s true v) b = b ≡ list_views e o s true v
  IsShown seen (list_views e o s false v) b = HasSeenLists seen e o s v b
  IsShown seen (records cs n v) (records ds m w) =
      (m ≡ n) × (w ≡ v) × AreShown (λ i. seen i && is_valid v i) cs ds
  IsShown seen (records cs n v) b = ⊥
  IsShown seen a b = b ≡ a

  pub AreShown : (ℕ → Bool) → Columns → Columns → Type 0
  AreShown seen no_columns no_columns = Unit {0}
  AreShown seen (column x a cs) (column y b ds) =
      (y ≡ x) × IsShown seen a b × AreShown seen cs ds
  AreShown seen cs ds = ⊥

-- r is a with the lists in null structs emptied, compacted
pub record IsCompactedShown (a r : Layout) : Type 0 where
  pub too_many : HasTooManyItems a
  pub shown : Layout
  pub is_shown : IsShown (λ i. true) a shown
  pub compacted : IsCompacted shown r

-- r is a compacted: as it is, or, if it has too many items, with the lists in null structs emptied
abbrev pub IsCompactedAs : Layout → Layout → Type 0
IsCompactedAs a r = IsCompacted a r ⊎ IsCompactedShown a r

-- why an array is not compacted
abbrev pub IsCompactFault : ArrayError → Layout → Type 0
IsCompactFault error.Memory a = Unit {0}
IsCompactFault error.Total a = HasTooManyElements (array_type_of a) (rows_of a)
IsCompactFault e a = ⊥

-- why it is not compacted with all its lists, and why a struct's columns are not
abbrev pub IsWholeFault : ArrayError → Layout → Type 0
IsWholeFault error.Memory a = Unit {0}
IsWholeFault error.Total a = HasTooManyItems a
IsWholeFault e a = ⊥

abbrev pub IsColumnsFault : ArrayError → Columns → Type 0
IsColumnsFault error.Memory cs = Unit {0}
IsColumnsFault error.Total cs = HaveTooManyItems cs
IsColumnsFault e cs = ⊥
