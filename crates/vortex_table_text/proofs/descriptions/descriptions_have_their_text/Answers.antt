use Rattle.vortex_table_response.proofs.Described.{described}
use Rattle.vortex_table_text.proofs.descriptions.descriptions_have_their_text.Goals as goal

pub returns : goal.returns
returns c = described
