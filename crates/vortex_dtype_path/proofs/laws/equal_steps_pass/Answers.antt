use Rattle.vortex_dtype_path.proofs.Steps.{eq_step-decides}
use Rattle.vortex_dtype_path.proofs.laws.equal_steps_pass.Goals as goal

pub returns : goal.returns
returns c = eq_step-decides
