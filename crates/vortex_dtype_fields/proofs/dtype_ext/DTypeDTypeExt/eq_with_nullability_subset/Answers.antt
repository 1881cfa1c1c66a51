use Rattle.std.proofs.Common.{arith}
use Rattle.vortex_dtype_fields.proofs.Fits.{fits}
use Rattle.vortex_dtype_fields.proofs.dtype_ext.DTypeDTypeExt.eq_with_nullability_subset.Goals as goal

pub returns-then-not-eq_ignore_nullability : goal.returns-then-not-eq_ignore_nullability
returns-then-not-eq_ignore_nullability c = grind (arith, fits)

pub returns-else-not-is_nullable : goal.returns-else-not-is_nullable
returns-else-not-is_nullable c = grind (arith, fits)

pub returns-then-not-is_nullable : goal.returns-then-not-is_nullable
returns-then-not-is_nullable c = grind (arith, fits)
