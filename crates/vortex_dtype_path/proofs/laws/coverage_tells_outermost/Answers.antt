use Rattle.vortex_dtype_path.proofs.Coverage.{coverage_tells}
use Rattle.vortex_dtype_path.proofs.laws.coverage_tells_outermost.Goals as goal

pub returns : goal.returns
returns c = coverage_tells
