use Rattle.std.proofs.Common.{length}
use Rattle.vortex_table_tokens.proofs.members.type_after_rows.Given as goal

abbrev pub invariant-members : goal.invariant-members
invariant-members l = Unit {0}

abbrev pub decreases-members : goal.decreases-members
decreases-members l = length l.reader
