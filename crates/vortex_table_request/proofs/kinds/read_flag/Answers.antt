use Rattle.std.proofs.Common.{rules}
use Rattle.vortex_table_request.proofs.kinds.read_flag.Goals as goal

pub returns-in-None : goal.returns-in-None
returns-in-None c = search rules
