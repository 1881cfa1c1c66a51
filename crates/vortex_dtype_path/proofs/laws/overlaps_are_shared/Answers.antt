use Rattle.vortex_dtype_path.proofs.Coverage.{shared}
use Rattle.vortex_dtype_path.proofs.laws.overlaps_are_shared.Goals as goal

pub returns : goal.returns
returns c = shared
