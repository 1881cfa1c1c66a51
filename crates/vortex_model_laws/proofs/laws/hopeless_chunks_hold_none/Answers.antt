use Rattle.vortex_model_laws.proofs.HopelessChunks.{hopeless_holds_none}
use Rattle.vortex_model_laws.proofs.laws.hopeless_chunks_hold_none.Goals as goal

pub returns : goal.returns
returns c = hopeless_holds_none
