use Rattle.std.proofs.Common.{◌≡◌, drop}
use Rattle.vortex_model_table.specs.Table.{length_for}
use Rattle.vortex_table_schema.proofs.lengths.BoundLengths.at.Given as goal

abbrev pub invariant-loop-entry : goal.invariant-loop-entry
invariant-loop-entry l = length_for (drop l.entry-index l.entry-items) l.self.default l.positions ≡ length_for l.entry-items l.self.default l.positions
