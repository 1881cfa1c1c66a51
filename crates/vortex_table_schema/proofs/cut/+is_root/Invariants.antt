use Rattle.std.proofs.Common.{length}
use Rattle.vortex_table_schema.proofs.cut.+is_root.Given as goal

abbrev pub decreases-is_root : goal.decreases-is_root
decreases-is_root l = length l.path.now
