use Rattle.vortex_model_laws.proofs.Counts.{counted_within}
use Rattle.vortex_model_laws.proofs.laws.scans_are_counted_within.Goals as goal

pub returns : goal.returns
returns c = counted_within
