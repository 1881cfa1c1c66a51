-- What each mode makes of a list view, and its errors.
use Rattle.std.specs.Prelude.{◌≡◌, ◌<◌, ◌≤◌, ◌^◌, ℕ, List, length, sum_by, IsTrue, IsFalse}
use Rattle.vortex_model.specs.Content.{Content}
use Rattle.vortex_arrays_view.specs.declared.error.ArrayError.{ArrayError}
use Rattle.vortex_arrays_view.specs.declared.error.ArrayError.TheVariants as error
use Rattle.vortex_arrays_model.specs.Layout.{Layout, len_of, rows_of}
use Rattle.vortex_arrays_model.specs.Parts.{valid_in}
use Rattle.vortex_arrays_model.specs.Canonical.{items_of, IsLaidOut, IsRebuilt}
use Rattle.vortex_arrays_nested.specs.Parts.{elements_of, offsets_of, sizes_of, is_flagged}
use Rattle.vortex_arrays_rebuild.specs.Trims.{IsTrimmedView}
use Rattle.vortex_arrays_rebuild.specs.declared.rebuild.ListViewRebuildMode.{ListViewRebuildMode}
use Rattle.vortex_arrays_rebuild.specs.declared.rebuild.ListViewRebuildMode.TheVariants as mode

-- r has the rows of the view a in the layout without gaps
abbrev pub IsLaidOutView : Layout → Layout → Type 0
IsLaidOutView a r = IsLaidOut (elements_of a) (offsets_of a) (sizes_of a) (valid_in a) r

-- r is the view a rebuilt: a itself where it is flagged or has no rows
abbrev pub IsRebuiltView : Layout → Layout → Type 0
IsRebuiltView a r =
    IsRebuilt (elements_of a) (offsets_of a) (sizes_of a) (is_flagged a) (valid_in a) r

-- the number of elements of all rows, 0 for null rows
abbrev pub total_of : List Content → ℕ
total_of rows = sum_by (λ row. length (items_of row)) rows

-- r is what a mode makes of the view a
abbrev pub IsRebuiltBy : ListViewRebuildMode → Layout → Layout → Type 0
IsRebuiltBy mode.MakeZeroCopyToList a r = IsRebuiltView a r
IsRebuiltBy mode.TrimElements a r = IsTrimmedView a r
IsRebuiltBy mode.MakeExact a r =
    (IsTrue (is_flagged a) → IsTrimmedView a r) × (IsFalse (is_flagged a) → IsRebuiltView a r)
IsRebuiltBy mode.OverlapCompression a r = (len_of a ≡ 0) × (r ≡ a)

-- memory ran out, or the rows have 2^64 elements or more
abbrev pub IsSumFault : ArrayError → List Content → Type 0
IsSumFault error.Memory rows = Unit {0}
IsSumFault error.Total rows = 2 ^ 64 ≤ total_of rows
IsSumFault e rows = ⊥

-- memory ran out, or an unflagged view has rows with 2^64 elements or more
abbrev pub IsTotalFault : ArrayError → Layout → Type 0
IsTotalFault error.Memory a = Unit {0}
IsTotalFault error.Total a = IsFalse (is_flagged a) × (2 ^ 64 ≤ total_of (rows_of a))
IsTotalFault e a = ⊥

-- a view with rows is not compressed
abbrev pub IsCompressionFault : ArrayError → Layout → Type 0
IsCompressionFault error.Memory a = Unit {0}
IsCompressionFault error.NotImplemented a = 0 < len_of a
IsCompressionFault e a = ⊥

-- why a mode fails for the view a
abbrev pub IsRebuildFault : ListViewRebuildMode → Layout → ArrayError → Type 0
IsRebuildFault mode.MakeZeroCopyToList a e = IsTotalFault e a
IsRebuildFault mode.TrimElements a e = e ≡ error.Memory
IsRebuildFault mode.MakeExact a e = IsTotalFault e a
IsRebuildFault mode.OverlapCompression a e = IsCompressionFault e a
