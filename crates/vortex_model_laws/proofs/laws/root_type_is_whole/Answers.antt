use Rattle.std.proofs.Common.{[], ◌∷◌}
use Rattle.vortex_model_laws.proofs.Answers.{uncut_kind, root_keeps}
use Rattle.vortex_model_laws.proofs.laws.root_type_is_whole.Goals as goal

pub returns : goal.returns
returns c = λ k. uncut_kind ([] ∷ []) root_keeps [] k
