use Rattle.std.proofs.Common.{length}
use Rattle.vortex_dtype_core.specs.View.{type_of}
use Rattle.vortex_table_text.proofs.LineLemmas.{ArePartway}
use Rattle.vortex_table_text.proofs.lines.read_lines.Given as goal

abbrev pub invariant-loop-line : goal.invariant-loop-line
invariant-loop-line l = ArePartway (type_of l.dtype) l.bytes l.rest l.rows.items

abbrev pub decreases-loop-line : goal.decreases-loop-line
decreases-loop-line l = length l.rest
