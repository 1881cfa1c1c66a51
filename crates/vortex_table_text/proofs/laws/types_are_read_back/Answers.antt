use Rattle.vortex_table_text.proofs.ReadBack.{types_back}
use Rattle.vortex_table_text.proofs.laws.types_are_read_back.Goals as goal

pub returns : goal.returns
returns c = types_back
