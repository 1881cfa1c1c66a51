use Rattle.std.proofs.Common.{◌≡◌, ◌+◌, length, take}
use Rattle.vortex_table_io.specs.Blocks.{items_in}
use Rattle.vortex_table_io.proofs.block_list.locate.Given as goal

abbrev pub invariant-loop-number : goal.invariant-loop-number
invariant-loop-number g l = length (items_in (take l.number l.blocks)) + l.offset ≡ l.index
