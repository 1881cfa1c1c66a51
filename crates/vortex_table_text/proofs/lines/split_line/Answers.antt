use Rattle.vortex_table_text.proofs.LineLemmas.{ended}
use Rattle.vortex_table_text.proofs.lines.split_line.Goals as goal

pub returns-in-Some : goal.returns-in-Some
returns-in-Some c = ended c.args.bytes.now c.in-Some.line.now c.in-Some.after.now c.in-Some.ensures.0 c.in-Some.ensures.1
