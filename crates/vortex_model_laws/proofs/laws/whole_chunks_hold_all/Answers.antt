use Rattle.vortex_model_laws.proofs.Skipping.{asked_sound, whole_holds_all}
use Rattle.vortex_model_laws.proofs.laws.whole_chunks_hold_all.Goals as goal

pub returns : goal.returns
returns c = λ t e chunk asked rows h. whole_holds_all t e (asked_sound t e asked) chunk rows h
