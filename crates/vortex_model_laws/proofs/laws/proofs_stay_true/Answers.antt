use Rattle.vortex_model_laws.proofs.Tighter.{stays_true}
use Rattle.vortex_model_laws.proofs.laws.proofs_stay_true.Goals as goal

pub returns : goal.returns
returns c = λ k e n m wide narrow tighter rows. stays_true k n m rows wide narrow tighter e
