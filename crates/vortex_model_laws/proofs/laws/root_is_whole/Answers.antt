use Rattle.std.proofs.Common.{[], ◌∷◌}
use Rattle.vortex_model_laws.proofs.Answers.{uncut, root_keeps}
use Rattle.vortex_model_laws.proofs.laws.root_is_whole.Goals as goal

pub returns : goal.returns
returns c = λ k row h. uncut ([] ∷ []) root_keeps [] k row h
