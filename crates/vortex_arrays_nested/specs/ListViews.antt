-- Lists by an offset and a size each, and why parts make no array of them.
use Rattle.std.specs.Prelude.{◌≡◌, ◌<◌, ℕ, ℤ, pos, List, length, slice_index_or}
use Rattle.vortex_model.specs.LogicalType.{boolean_type, non_nullable}
use Rattle.vortex_model.specs.Content.{integer}
use Rattle.vortex_arrays_view.specs.declared.error.ArrayError.{ArrayError}
use Rattle.vortex_arrays_view.specs.declared.error.ArrayError.TheVariants as error
use Rattle.vortex_arrays_model.specs.Layout.{Layout, list_views, Valid, by_array, len_of, array_type_of, content_at, IsOffsets, IsView, HasLength}

abbrev pub IsListViews : Layout → Type 0
IsListViews (list_views e o s f v) = Unit {0}
IsListViews a = ⊥

-- the validity's array, if it has one, has the type of booleans without null
abbrev pub HasBooleans : Valid → Type 0
HasBooleans (by_array a) = array_type_of a ≡ boolean_type non_nullable
HasBooleans v = Unit {0}

-- offsets and sizes have an integer type without null, and the validity has booleans
abbrev pub AreTyped : Layout → Layout → Valid → Type 0
AreTyped o s v = IsOffsets (array_type_of o) × IsOffsets (array_type_of s) × HasBooleans v

-- as many sizes as offsets, and a validity of that length
abbrev pub AreAsMany : Layout → Layout → Valid → Type 0
AreAsMany o s v = (len_of s ≡ len_of o) × HasLength v (len_of o)

-- each list, also a null one, is within n elements
abbrev pub LieWithin : ℕ → Layout → Layout → Type 0
LieWithin n o s = (i : ℕ) → i < len_of o → IsView n (content_at o i) (content_at s i)

-- each list is within n elements, by its offset and its size as integers
abbrev pub AllLieWithin : ℕ → List ℤ → List ℤ → Type 0
AllLieWithin n os ss = (i : ℕ) → i < length os → IsView n (integer (slice_index_or os i (pos 0))) (integer (slice_index_or ss i (pos 0)))

-- why elements, offsets, sizes and a validity make no lists
abbrev pub IsListViewFault : ArrayError → Layout → Layout → Layout → Valid → Type 0
IsListViewFault error.Memory e o s v = Unit {0}
IsListViewFault error.WrongType e o s v = ¬ AreTyped o s v
IsListViewFault error.LengthMismatch e o s v = AreTyped o s v × (¬ AreAsMany o s v)
IsListViewFault error.ViewOutOfRange e o s v =
    AreTyped o s v × AreAsMany o s v × (¬ LieWithin (len_of e) o s)
IsListViewFault x e o s v = ⊥
