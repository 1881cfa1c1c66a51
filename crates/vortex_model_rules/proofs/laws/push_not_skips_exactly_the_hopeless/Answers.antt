use Rattle.vortex_model_rules.proofs.PushNot.{exactly}
use Rattle.vortex_model_rules.proofs.laws.push_not_skips_exactly_the_hopeless.Goals as goal

pub returns : goal.returns
returns c = exactly c.exactly_the_hopeless_are_skipped.ensures c.built_in_proofs_read_no_columns.ensures
