use Rattle.std.proofs.Common.{◌≡◌, ℕ, take, drop, length}
use Rattle.vortex_table_io.specs.Blocks.{left_in}
use Rattle.vortex_table_layout.specs.Retyping.{target_of, lengths_of}
use Rattle.vortex_table_core.specs.Retyped.{AreRegrouped}
use Rattle.vortex_table_core.proofs.table.Table.regrouped.Given as goal

abbrev pub invariant-loop-group : goal.invariant-loop-group
invariant-loop-group l = record {
  index : ℕ;
  left : left_in l.old ≡ drop index l.self.groups;
  regrouped : AreRegrouped (target_of l.retyping) (lengths_of l.retyping) l.chunks (take index l.self.groups) l.groups;
}

abbrev pub decreases-loop-group : goal.decreases-loop-group
decreases-loop-group l = length (left_in l.old)
