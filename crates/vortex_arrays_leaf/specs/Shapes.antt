-- The layout of an array, and its parts.
use Rattle.std.specs.Prelude.{ℤ, List, [], Bool}
use Rattle.vortex_model.specs.LogicalType.{IntKind, u8, Nullability, non_nullable, nullable}
use Rattle.vortex_arrays_model.specs.Layout.{Layout, bools, numbers, constant, Valid, required, all_valid}

abbrev pub IsBools : Layout → Type 0
IsBools (bools bs v) = Unit {0}
IsBools a = ⊥

abbrev pub IsNumbers : Layout → Type 0
IsNumbers (numbers k zs v) = Unit {0}
IsNumbers a = ⊥

abbrev pub IsConstant : Layout → Type 0
IsConstant (constant k r n) = Unit {0}
IsConstant a = ⊥

-- the bits of an array of booleans
abbrev pub bits_in : Layout → List Bool
bits_in (bools bs v) = bs
bits_in a = []

-- the integer type of an array
abbrev pub type_in : Layout → IntKind
type_in (numbers k zs v) = k
type_in a = u8

abbrev pub integers_in : Layout → List ℤ
integers_in (numbers k zs v) = zs
integers_in a = []

-- no row is null
abbrev pub all_valid_by : Nullability → Valid
all_valid_by non_nullable = required
all_valid_by nullable = all_valid
