use Rattle.std.proofs.Common.{◌≡◌, length}
use Rattle.vortex_table_io.specs.Blocks.{left_in}
use Rattle.vortex_table_io.proofs.walk.Walk.enter_block.Given as goal

abbrev pub invariant-loop-block : goal.invariant-loop-block
invariant-loop-block g l = left_in l.self ≡ left_in l.initial.self

abbrev pub decreases-loop-block : goal.decreases-loop-block
decreases-loop-block g l = length l.self.blocks.now
