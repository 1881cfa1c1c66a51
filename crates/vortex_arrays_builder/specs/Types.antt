-- Types that have plain layouts, and plain layouts.
use Rattle.vortex_model.specs.LogicalType.{LogicalType, boolean_type, integer_type, utf8, binary, list, fixed_list, struct, Fields, no_fields, field}
use Rattle.vortex_model.specs.Kept.{CanHold}
use Rattle.vortex_arrays_model.specs.Layout.{Layout, bools, numbers, strings, fixed_lists, list_views, records, Columns, no_columns, column}
use Rattle.vortex_arrays_model.specs.Canonical.{IsLaidOut}

-- booleans, integers, strings, bytes, and lists and structs of these at any depth
abbrev mutual
  pub HasPlain : LogicalType → Type 0
  HasPlain (boolean_type n) = Unit {0}
  HasPlain (integer_type i n) = Unit {0}
  HasPlain (utf8 n) = Unit {0}
  HasPlain (binary n) = Unit {0}
  HasPlain (list k n) = HasPlain k
  HasPlain (fixed_list k m n) = HasPlain k
  HasPlain (struct fs n) = HavePlain fs
  HasPlain k = ⊥

  pub HavePlain : Fields → Type 0
  HavePlain no_fields = Unit {0}
  HavePlain (field x k fs) = HasPlain k × HavePlain fs

-- a table holds no other types
abbrev pub TablesHoldPlainTypes : Type 0
TablesHoldPlainTypes = (k : LogicalType) → CanHold k → HasPlain k

-- No dictionary or constant at any depth, and lists as a rebuilding makes them: without gaps, and
-- with no elements in null lists.
abbrev mutual
  pub IsPlainLayout : Layout → Type 0
  IsPlainLayout (bools bs v) = Unit {0}
  IsPlainLayout (numbers k zs v) = Unit {0}
  IsPlainLayout (strings s vs bs v) = Unit {0}
  IsPlainLayout (fixed_lists e s n v) = IsPlainLayout e
  IsPlainLayout (list_views e o s f v) =
      IsPlainLayout e × IsLaidOut e o s v (list_views e o s f v)
  IsPlainLayout (records cs n v) = ArePlainLayouts cs
  IsPlainLayout a = ⊥

  pub ArePlainLayouts : Columns → Type 0
  ArePlainLayouts no_columns = Unit {0}
  ArePlainLayouts (column x a cs) = IsPlainLayout a × ArePlainLayouts cs
