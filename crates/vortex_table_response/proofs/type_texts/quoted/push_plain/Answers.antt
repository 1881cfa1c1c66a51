use Rattle.std.proofs.Common.{rules}
use Rattle.vortex_table_response.proofs.type_texts.Plain.{between_quotes}
use Rattle.vortex_table_response.proofs.type_texts.quoted.push_plain.Goals as goal

pub returns : goal.returns
returns c = search (rules, between_quotes)
