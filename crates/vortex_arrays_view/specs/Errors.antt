-- The number and the name of each refusal.
use Rattle.std.specs.Prelude.{ℕ, List, codes}
use Rattle.vortex_arrays_view.specs.declared.error.ArrayError.{ArrayError}
use Rattle.vortex_arrays_view.specs.declared.error.ArrayError.TheVariants as error

abbrev pub number_of_error : ArrayError → ℕ
number_of_error error.Memory = 1
number_of_error error.OutOfRange = 2
number_of_error error.LengthMismatch = 3
number_of_error error.NullInNonNullable = 4
number_of_error error.CodeOutOfRange = 5
number_of_error error.ElementCount = 6
number_of_error error.ViewOutOfRange = 7
number_of_error error.NotImplemented = 8
number_of_error error.Total = 9
number_of_error error.NoSuchField = 10
number_of_error error.BadView = 11
number_of_error error.NotUtf8 = 12
number_of_error error.WrongType = 13

abbrev pub name_of_error : ArrayError → List ℕ
name_of_error error.Memory = codes "Memory"
name_of_error error.OutOfRange = codes "OutOfRange"
name_of_error error.LengthMismatch = codes "LengthMismatch"
name_of_error error.NullInNonNullable = codes "NullInNonNullable"
name_of_error error.CodeOutOfRange = codes "CodeOutOfRange"
name_of_error error.ElementCount = codes "ElementCount"
name_of_error error.ViewOutOfRange = codes "ViewOutOfRange"
name_of_error error.NotImplemented = codes "NotImplemented"
name_of_error error.Total = codes "Total"
name_of_error error.NoSuchField = codes "NoSuchField"
name_of_error error.BadView = codes "BadView"
name_of_error error.NotUtf8 = codes "NotUtf8"
name_of_error error.WrongType = codes "WrongType"
