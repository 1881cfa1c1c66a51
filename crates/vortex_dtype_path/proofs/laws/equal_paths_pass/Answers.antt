use Rattle.vortex_dtype_path.proofs.Steps.{eq_steps-decides}
use Rattle.vortex_dtype_path.proofs.laws.equal_paths_pass.Goals as goal

pub returns : goal.returns
returns c = eq_steps-decides
