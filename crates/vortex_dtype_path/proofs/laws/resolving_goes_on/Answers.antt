use Rattle.std.proofs.Common.{Some}
use Rattle.vortex_dtype_path.proofs.Resolved.{goes_on}
use Rattle.vortex_dtype_path.proofs.laws.resolving_goes_on.Goals as goal

pub returns : goal.returns
returns c = λ k p q. goes_on (Some k) p q
