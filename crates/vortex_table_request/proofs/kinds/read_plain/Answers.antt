use Rattle.std.proofs.Common.{rules}
use Rattle.vortex_table_request.proofs.kinds.read_plain.Goals as goal

pub returns : goal.returns
returns c = search rules
