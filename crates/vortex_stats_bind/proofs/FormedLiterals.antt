-- The literals of an expression are contents of their types.
use Rattle.vortex_model.specs.LogicalType.{stored}
use Rattle.vortex_model.specs.Valid.{IsContent}
use Rattle.vortex_model.proofs.Contents.{said}
use Rattle.vortex_model.proofs.Tests.{has_so}
use Rattle.vortex_scalar_core.specs.Scalar.{scalar_type, scalar_raw, scalar_content}
use Rattle.vortex_scalar_core.specs.declared.scalar.Scalar.{Scalar}

pub scalar_is_formed : (s : Scalar) → IsContent (scalar_type s) (scalar_content s)
scalar_is_formed s = said (stored (scalar_type s)) (scalar_raw s) (has_so (stored (scalar_type s)) (scalar_raw s) s.is_valid)
