use Rattle.vortex_model_laws.proofs.Skipping.{asked_sound, skipped_holds_none}
use Rattle.vortex_model_laws.proofs.laws.skipped_chunks_hold_none.Goals as goal

pub returns : goal.returns
returns c = λ t e chunk asked rows h. skipped_holds_none t e (asked_sound t e asked) chunk rows h
