use Rattle.vortex_model_laws.proofs.NoColumns.{falsifier_none, satisfier_none}
use Rattle.vortex_model_laws.proofs.laws.built_in_proofs_read_no_columns.Goals as goal

pub returns : goal.returns
returns c = λ k e. (falsifier_none k e, satisfier_none k e)
