use Rattle.std.proofs.Common.{rules}
use Rattle.vortex_table_io.proofs.line_handler.Response.as_line.Goals as goal

pub returns-in-Done : goal.returns-in-Done
returns-in-Done c = search rules
