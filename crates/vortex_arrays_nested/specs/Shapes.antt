-- The parts of a dictionary.
use Rattle.std.specs.Prelude.{Bool, false, []}
use Rattle.vortex_model.specs.LogicalType.{u8}
use Rattle.vortex_arrays_model.specs.Layout.{Layout, numbers, dictionary, required}

abbrev pub IsDictionary : Layout → Type 0
IsDictionary (dictionary c v f) = Unit {0}
IsDictionary a = ⊥

-- a placeholder for the codes and values of other layouts
abbrev no_rows : Layout
no_rows = numbers u8 [] required

abbrev pub codes_in : Layout → Layout
codes_in (dictionary c v f) = c
codes_in a = no_rows

abbrev pub values_in : Layout → Layout
values_in (dictionary c v f) = v
values_in a = no_rows

-- each value is known to be referenced
abbrev pub flag_in : Layout → Bool
flag_in (dictionary c v f) = f
flag_in a = false
