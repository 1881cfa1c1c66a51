use Rattle.std.proofs.Common.{rules}
use Rattle.vortex_table_request.proofs.kinds.read_digits.Goals as goal

pub returns-in-Err : goal.returns-in-Err
returns-in-Err c = search rules
