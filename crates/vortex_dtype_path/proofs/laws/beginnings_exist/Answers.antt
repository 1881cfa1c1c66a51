use Rattle.vortex_dtype_path.proofs.Resolved.{beginning_exists}
use Rattle.vortex_dtype_path.proofs.laws.beginnings_exist.Goals as goal

pub returns : goal.returns
returns c = beginning_exists
