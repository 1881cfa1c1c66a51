-- What an optional reference to a value leads to.
use Rattle.std.proofs.Common.{◌≡◌, refl, Option, Some, None, option_copied}
use Rattle.std.specs.Borrow.{Bor}
use Rattle.vortex_scalar_value.specs.View.{raw_in, raw_at}
use Rattle.vortex_scalar_value.specs.declared.scalar_value.ScalarValue.{ScalarValue}

pub raw_copied : (o : Option (Bor ScalarValue)) → raw_at o ≡ raw_in (option_copied o)
raw_copied None = refl
raw_copied (Some r) = refl
