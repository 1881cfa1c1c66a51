-- Why there is no column.
use Rattle.std.specs.Prelude.{◌≡◌, None}
use Rattle.vortex_model.specs.Path.{Names, type_of_column}
use Rattle.vortex_arrays_model.specs.Layout.{Layout, array_type_of}
use Rattle.vortex_arrays_view.specs.declared.error.ArrayError.{ArrayError}
use Rattle.vortex_arrays_view.specs.declared.error.ArrayError.TheVariants.{Memory, NoSuchField}

-- the type has nothing at the path, unless memory ran out
abbrev pub IsColumnFault : ArrayError → Layout → Names → Type 0
IsColumnFault Memory a xs = Unit {0}
IsColumnFault NoSuchField a xs = type_of_column (array_type_of a) xs ≡ None
IsColumnFault e a xs = ⊥
