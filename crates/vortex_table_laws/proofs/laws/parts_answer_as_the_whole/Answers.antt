use Rattle.vortex_table_laws.proofs.PartByPart.{answer_of_parts}
use Rattle.vortex_table_laws.proofs.laws.parts_answer_as_the_whole.Goals as goal

pub returns : goal.returns
returns c = answer_of_parts
