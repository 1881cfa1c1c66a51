-- The flags of list views and of dictionaries.
use Rattle.std.specs.Prelude.{◌≡◌, Bool, zero, suc, [], ◌∷◌, Option, Some, None}
use Rattle.vortex_model.specs.Path.{Names, Positions, positions}
use Rattle.vortex_arrays_model.specs.Layout.{Layout, dictionary, list_views, records, Columns, no_columns, column, array_type_of}

-- whether each list is known to begin where the one before ends: of a list view, or of the first
-- field of a struct array and of the fields after it
pub data ViewFlags : Type 0 where
  no_view : ViewFlags
  view_flag : Bool → ViewFlags
  field_flags : ViewFlags → ViewFlags → ViewFlags

-- the flags of the list views that are reached only through structs
abbrev mutual
  pub flags_of : Layout → ViewFlags
  flags_of (list_views e o s f v) = view_flag f
  flags_of (records cs n v) = flags_in cs
  flags_of a = no_view

  pub flags_in : Columns → ViewFlags
  flags_in no_columns = no_view
  flags_in (column x a cs) = field_flags (flags_of a) (flags_in cs)

-- the flags at a path of positions
abbrev pub flags_at : ViewFlags → Positions → ViewFlags
flags_at f [] = f
flags_at (field_flags f rest) (zero ∷ is) = flags_at f is
flags_at (field_flags f rest) (suc i ∷ is) = flags_at rest (i ∷ is)
flags_at f (i ∷ is) = no_view

-- r has the flags of the column of a at a path of names
abbrev pub HasFlagsOfColumn : Layout → Names → Layout → Type 0
HasFlagsOfColumn a xs r = (is : Positions) → positions (array_type_of a) xs ≡ Some is →
    flags_of r ≡ flags_at (flags_of a) is

-- whether each value is known to be referenced
abbrev pub dictionary_flag : Layout → Option Bool
dictionary_flag (dictionary c v f) = Some f
dictionary_flag a = None

-- r is a dictionary with the flag of a, where a is a dictionary
abbrev pub KeepsDictionaryFlag : Layout → Layout → Type 0
KeepsDictionaryFlag a r = (f : Bool) → dictionary_flag a ≡ Some f → dictionary_flag r ≡ Some f
