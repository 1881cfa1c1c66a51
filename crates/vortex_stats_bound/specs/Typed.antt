-- Precisions of values of a type.
use Rattle.std.specs.Prelude.{◌≡◌, Bool, true}
use Rattle.vortex_model.specs.LogicalType.{LogicalType}
use Rattle.vortex_model.specs.Content.{Raw}
use Rattle.vortex_model.specs.Valid.{valid}
use Rattle.vortex_model_table.specs.Statistics.{Precision, exact, inexact, absent}
use Rattle.vortex_scalar_core.specs.Scalar.{scalar_type}
use Rattle.vortex_scalar_core.specs.declared.scalar.Scalar.{Scalar}

-- the type has the value, if there is one
abbrev pub is_precision_of : LogicalType → Precision Raw → Bool
is_precision_of k (exact r) = valid k r
is_precision_of k (inexact r) = valid k r
is_precision_of k absent = true

-- the value has the type, if there is one
abbrev pub AreOfType : LogicalType → Precision Scalar → Type 0
AreOfType k (exact s) = scalar_type s ≡ k
AreOfType k (inexact s) = scalar_type s ≡ k
AreOfType k absent = Unit {0}
