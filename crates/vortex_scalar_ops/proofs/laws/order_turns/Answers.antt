use Rattle.vortex_model_table.proofs.ContentOrder.{reversed}
use Rattle.vortex_scalar_ops.proofs.laws.order_turns.Goals as goal

pub returns : goal.returns
returns c = reversed
