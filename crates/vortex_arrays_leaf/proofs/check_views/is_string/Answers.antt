use Rattle.std.proofs.Common.{arith}
use Rattle.std.proofs.lemmas.Grind.{elements}
use Rattle.vortex_arrays_leaf.proofs.check_views.is_string.Goals as goal

pub returns-in-Binary-clause-holds : goal.returns-in-Binary-clause-holds
returns-in-Binary-clause-holds c = grind (arith, elements)
