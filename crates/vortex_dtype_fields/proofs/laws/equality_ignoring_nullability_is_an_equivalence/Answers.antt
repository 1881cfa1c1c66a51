use Rattle.vortex_dtype_fields.proofs.Lawful.{equal_equiv}
use Rattle.vortex_dtype_fields.proofs.laws.equality_ignoring_nullability_is_an_equivalence.Goals as goal

pub returns : goal.returns
returns c = equal_equiv
