use Rattle.vortex_dtype_path.proofs.Coverage.{outermost_needed}
use Rattle.vortex_dtype_path.proofs.laws.outermost_are_needed.Goals as goal

pub returns : goal.returns
returns c = outermost_needed
