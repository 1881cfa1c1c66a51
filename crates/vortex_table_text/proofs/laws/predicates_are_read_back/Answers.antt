use Rattle.vortex_table_text.proofs.ReadBack.{predicates_back}
use Rattle.vortex_table_text.proofs.laws.predicates_are_read_back.Goals as goal

pub returns : goal.returns
returns c = predicates_back
