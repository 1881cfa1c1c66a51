use Rattle.std.proofs.Common.{rules}
use borrow.Author.Tests.{tests}
use Rattle.vortex_table_io.proofs.run.finish.Goals as goal

pub returns-in-Ok-clause-ok : goal.returns-in-Ok-clause-ok
returns-in-Ok-clause-ok c = search rules

pub returns-in_err-answer_line-clause-part : goal.returns-in_err-answer_line-clause-part
returns-in_err-answer_line-clause-part c = search (tests, rules)
