use Rattle.vortex_scalar_ops.proofs.EqualityLemmas.{eq_equiv}
use Rattle.vortex_scalar_ops.proofs.laws.equality_is_an_equivalence.Goals as goal

pub returns : goal.returns
returns c = eq_equiv
