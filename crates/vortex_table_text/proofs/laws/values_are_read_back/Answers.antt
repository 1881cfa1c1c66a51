use Rattle.vortex_table_text.proofs.ReadBack.{values_back}
use Rattle.vortex_table_text.proofs.laws.values_are_read_back.Goals as goal

pub returns : goal.returns
returns c = values_back
