-- Two operands count one less than the predicate that joins them.
use Rattle.std.proofs.Common.{◌+◌, ◌*◌}
use Rattle.vortex_stats_expr.specs.TreeCode.{size_of}
use Rattle.vortex_table_text.proofs.predicates.+writable.Given as goal

abbrev pub decreases-is_writable : goal.decreases-is_writable
decreases-is_writable l = 2 * size_of l.predicate.now

abbrev pub decreases-are_writable : goal.decreases-are_writable
decreases-are_writable l = 2 * (size_of l.x.now + size_of l.y.now) + 1
