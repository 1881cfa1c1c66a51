-- Laws of layouts.
use Rattle.std.specs.Prelude.{◌≡◌, ◌≢◌, ◌↔◌, ◌≤◌, ◌+◌, ◌-◌, ℕ, false, Bool, List, ◌∷◌, Some, slice_range}
use Rattle.std.specs.List.{All}
use Rattle.vortex_model.specs.LogicalType.{nullability_of}
use Rattle.vortex_model.specs.Content.{Content, null}
use Rattle.vortex_model.specs.Valid.{IsContent}
use Rattle.vortex_model.specs.Path.{Names, position_named}
use Rattle.vortex_arrays_model.specs.Layout.{Layout, Valid, Columns, dictionary, list_views, records, len_of, array_type_of, fields_of, content_at, rows_of, AreEndToEnd, IsSound}
use Rattle.vortex_arrays_model.specs.Picks.{Picks, PicksSome, position_of}
use Rattle.vortex_arrays_model.specs.Canonical.{counts, IsLaidOut, IsRebuilt}
use Rattle.vortex_arrays_model.specs.Trimmed.{IsTrimmed}
use Rattle.vortex_arrays_model.specs.Column.{IsColumn, array_at, IsMasked}
use Rattle.vortex_arrays_model.specs.Referenced.{MarksReferenced, Occurs, OccursMarked}

-- each row of a sound array is a content of its type
abbrev pub RowsAreContents : Type 0
RowsAreContents = (a : Layout) → IsSound a → All (IsContent (array_type_of a)) (rows_of a)

-- a slice has the rows from its start to its end
abbrev pub SlicesHaveTheirRows : Type 0
SlicesHaveTheirRows = (a r : Layout) (start end : ℕ) → start ≤ end → end ≤ len_of a →
    Picks a r (end - start) (λ i. start + i) → rows_of r ≡ slice_range (rows_of a) start end

-- a slice of a slice is the slice from the sum of the starts
abbrev pub SlicesOfSlicesAreSlices : Type 0
SlicesOfSlicesAreSlices = (a b c : Layout) (n m start at : ℕ) → at + m ≤ n →
    Picks a b n (λ i. start + i) → Picks b c m (λ i. at + i) → Picks a c m (λ i. start + at + i)

-- a dictionary has the value at each code, and null where a code is null
abbrev pub DictionariesTake : Type 0
DictionariesTake = (c v : Layout) (f : Bool) → IsSound (dictionary c v f) →
    PicksSome v (dictionary c v f) (nullability_of (array_type_of c)) (len_of c)
    (λ i. position_of (content_at c i))

-- a rebuilt list view has the same rows and the same type
abbrev pub RebuildingKeepsRows : Type 0
RebuildingKeepsRows = (e o s : Layout) (f : Bool) (v : Valid) (r : Layout) → IsRebuilt e o s f v r →
    (rows_of r ≡ rows_of (list_views e o s f v)) ×
    (array_type_of r ≡ array_type_of (list_views e o s f v))

-- the lists of a rebuilt view follow one another, as its flag states
abbrev pub RebuiltListsFollow : Type 0
RebuiltListsFollow = (e o s : Layout) (v : Valid) (r : Layout) (h : IsLaidOut e o s v r) →
    AreEndToEnd (counts h.offsets) (counts h.sizes)

-- Unflagged list views with equal rows are rebuilt to equal offsets, sizes and element rows.
abbrev pub EqualRowsRebuildEqually : Type 0
EqualRowsRebuildEqually =
    (e o s : Layout) (v : Valid) (r : Layout) (a b c : Layout) (w : Valid) (t : Layout)
    (h : IsLaidOut e o s v r) (k : IsLaidOut a b c w t) →
    rows_of (list_views e o s false v) ≡ rows_of (list_views a b c false w) →
    (h.offsets ≡ k.offsets) × (h.sizes ≡ k.sizes) × (rows_of h.elements ≡ rows_of k.elements)

-- a trimmed list view has the same rows and the same type
abbrev pub TrimmingKeepsRows : Type 0
TrimmingKeepsRows =
    (e o s : Layout) (f : Bool) (v : Valid) (r : Layout) → IsSound (list_views e o s f v) →
    IsTrimmed e o s f v r → (rows_of r ≡ rows_of (list_views e o s f v)) ×
    (array_type_of r ≡ array_type_of (list_views e o s f v))

-- rebuilding a rebuilt list view changes nothing
abbrev pub RebuildingTwiceIsOnce : Type 0
RebuildingTwiceIsOnce =
    (e o s : Layout) (f : Bool) (v : Valid) (a b c : Layout) (g : Bool) (w : Valid) (r : Layout) →
    IsRebuilt e o s f v (list_views a b c g w) → IsRebuilt a b c g w r → r ≡ list_views a b c g w

-- The column at a path of a field, with the nulls of the struct array pushed into it, is the column
-- at that path after the field's name.
abbrev pub ColumnsStepDown : Type 0
ColumnsStepDown =
    (cs : Columns) (n : ℕ) (v : Valid) (x : List ℕ) (xs : Names) (k : ℕ) (b t r : Layout) →
    IsSound (records cs n v) → position_named (fields_of cs) x ≡ Some k → array_at cs k ≡ Some b →
    IsColumn b xs t → IsMasked v t r → IsColumn (records cs n v) (x ∷ xs) r

-- a content other than null occurs in the rows of a dictionary exactly where it occurs at a value
-- that a code refers to
abbrev pub ReferencedValuesAreTheRows : Type 0
ReferencedValuesAreTheRows = (c v : Layout) (f b : Bool) (mask : List Bool) (x : Content) →
    IsSound (dictionary c v f) → MarksReferenced c (len_of c) b mask → x ≢ null →
    Occurs (dictionary c v f) x ↔ OccursMarked v b mask x
