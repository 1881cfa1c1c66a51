-- Numbers and names of the errors.
use Rattle.std.specs.Prelude.{ℕ, List, codes}
use Rattle.vortex_scalar_value.specs.declared.error.ScalarError.{ScalarError}
use Rattle.vortex_scalar_value.specs.declared.error.ScalarError.TheVariants as error

abbrev pub number_of_error : ScalarError → ℕ
number_of_error error.Memory = 1
number_of_error error.Invalid = 2
number_of_error error.NotConvertible = 3

abbrev pub name_of_error : ScalarError → List ℕ
name_of_error error.Memory = codes "Memory"
name_of_error error.Invalid = codes "Invalid"
name_of_error error.NotConvertible = codes "NotConvertible"
