use Rattle.vortex_table_text.proofs.WrittenLemmas.{AreWritten}
use Rattle.vortex_table_text.proofs.written.push_lines.Given as goal

abbrev pub invariant-loop-i : goal.invariant-loop-i
invariant-loop-i l = AreWritten l.array l.i l.fn.out.items l.out.items
