use Rattle.vortex_dtype_path.proofs.Coverage.{outermost_cover}
use Rattle.vortex_dtype_path.proofs.laws.outermost_cover_all.Goals as goal

pub returns : goal.returns
returns c = outermost_cover
