use Rattle.vortex_model_laws.proofs.Skipping.{asked_sound, all_found}
use Rattle.vortex_model_laws.proofs.laws.skipping_loses_none.Goals as goal

pub returns : goal.returns
returns c = λ t e asked rows. all_found t e (asked_sound t e asked) t.chunks rows
