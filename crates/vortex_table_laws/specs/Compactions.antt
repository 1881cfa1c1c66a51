-- What compactions leave.
use Rattle.std.specs.Prelude.{◌≡◌, ◌<◌, ℕ, List, [], ◌∷◌, false, map, Option, Some, None, Result, OnOk, IfErr, OnErr, option_and_then, slice_get}
use Rattle.vortex_model.specs.Path.{Positions}
use Rattle.vortex_arrays_model.specs.Layout.{Layout, list_views, records, len_of, rows_of}
use Rattle.vortex_arrays_model.specs.Column.{array_at}
use Rattle.vortex_model_table.specs.Command.{compact}
use Rattle.vortex_table_layout.specs.Compacted.{HasTooManyItems}
use Rattle.vortex_table_schema.specs.Error.{Explains}
use Rattle.vortex_table_schema.specs.declared.error.TableError.{TableError}
use Rattle.vortex_table_core.specs.Arrays.{arrays_of, AreAllCompacted}
use Rattle.vortex_table_core.specs.TableView.{table_of}
use Rattle.vortex_table_core.specs.Totals.{PassesTotal}
use Rattle.vortex_table_core.specs.declared.table.Table.{Table}

-- a compaction of the old table ended so, and left the new one: with its arrays compacted, and its
-- rows, statistics and groups
pub record IsCompactedBy {A : Type 0} (old new : Table) (result : Result A TableError) :
    Type 0 where
  pub compacted : OnOk result (AreAllCompacted (arrays_of old) (arrays_of new))
  pub rows : OnOk result (table_of new ≡ table_of old)
  pub statistics : OnOk result (map (λ c. c.bounds.items) new.chunks.items
      ≡ map (λ c. c.bounds.items) old.chunks.items)
  pub groups : OnOk result (new.groups ≡ old.groups)
  pub refused : IfErr result
      (λ e. Explains (PassesTotal (Some (table_of old)) compact) None e)
  pub unchanged : OnErr result (new ≡ old)

-- the array that records alone lead to, each by the position of a column
abbrev pub array_in : Layout → Positions → Option Layout
array_in a [] = Some a
array_in (records cs n v) (i ∷ is) = option_and_then (λ b. array_in b is) (array_at cs i)
array_in a (i ∷ is) = None

abbrev pub IsUnflagged : Layout → Type 0
IsUnflagged (list_views e o s false v) = Unit {0}
IsUnflagged a = ⊥

-- among these arrays, x is an unflagged list view with rows that records alone lead to, in an array
-- whose lists can be counted, those under null records too
pub record HasView (arrays : List Layout) (i : ℕ) (is : Positions) (x : Layout) : Type 0 where
  pub array : Layout
  pub there : slice_get arrays i ≡ Some array
  pub counted : ¬ HasTooManyItems array
  pub view : array_in array is ≡ Some x
  pub unflagged : IsUnflagged x
  pub some : 0 < len_of x

-- x is at these positions among these arrays
pub record StandsAt (arrays : List Layout) (i : ℕ) (is : Positions) (x : Layout) : Type 0 where
  pub array : Layout
  pub there : slice_get arrays i ≡ Some array
  pub part : array_in array is ≡ Some x

-- both are list views, with equal offsets, sizes and rows of elements
abbrev pub AreLaidOutAlike : Layout → Layout → Type 0
AreLaidOutAlike (list_views e o s f v) (list_views x p t g w) =
    (o ≡ p) × (s ≡ t) × (rows_of e ≡ rows_of x)
AreLaidOutAlike a b = ⊥

-- Where two of the old arrays have such views with equal rows of their own, those under null
-- records too, the new arrays have list views at their positions that are laid out alike.
abbrev pub LeaveAlike : List Layout → List Layout → Type 0
LeaveAlike old new = (i j : ℕ) (is js : Positions) (x y : Layout) →
    HasView old i is x → HasView old j js y → rows_of x ≡ rows_of y →
    (z w : Layout) × StandsAt new i is z × StandsAt new j js w × AreLaidOutAlike z w
