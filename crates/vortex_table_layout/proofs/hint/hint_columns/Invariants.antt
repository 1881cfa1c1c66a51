use Rattle.vortex_table_layout.proofs.HintLemmas.{FirstFrom}
use Rattle.vortex_table_layout.proofs.hint.hint_columns.Given as goal

abbrev pub invariant-loop-i : goal.invariant-loop-i
invariant-loop-i l = FirstFrom l.hints l.fields.items l.i l.hinted.items
