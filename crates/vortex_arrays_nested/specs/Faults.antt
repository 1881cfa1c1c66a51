-- Why codes and values make no dictionary.
use Rattle.vortex_arrays_view.specs.declared.error.ArrayError.{ArrayError}
use Rattle.vortex_arrays_view.specs.declared.error.ArrayError.TheVariants.{Memory, CodeOutOfRange, WrongType}
use Rattle.vortex_arrays_model.specs.Layout.{Layout, len_of, array_type_of, IsInteger}
use Rattle.vortex_arrays_model.specs.Parts.{AreWithin}

-- the codes are not integers, or one of them is no index of a value
abbrev pub IsCodesFault : ArrayError → Layout → Layout → Type 0
IsCodesFault WrongType c v = IsInteger (array_type_of c) → ⊥
IsCodesFault CodeOutOfRange c v = IsInteger (array_type_of c) × (AreWithin c (len_of v) → ⊥)
IsCodesFault e c v = ⊥

-- memory ran out, or the codes don't fit
abbrev pub IsDictFault : ArrayError → Layout → Layout → Type 0
IsDictFault Memory c v = Unit {0}
IsDictFault e c v = IsCodesFault e c v
