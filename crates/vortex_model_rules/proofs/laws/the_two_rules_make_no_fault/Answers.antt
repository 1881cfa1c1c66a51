use Rattle.vortex_model_rules.proofs.NoFault.{no_faults}
use Rattle.vortex_model_rules.proofs.laws.the_two_rules_make_no_fault.Goals as goal

pub returns : goal.returns
returns c = no_faults
