use Rattle.std.proofs.Common.{arith}
use Rattle.std.proofs.lemmas.Grind.{elements}
use Rattle.vortex_arrays_parts.proofs.lend.as_bytes.Goals as goal

pub returns-clause-held : goal.returns-clause-held
returns-clause-held c = grind (arith, elements)
