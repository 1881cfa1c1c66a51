-- The operands of a form count less than the form.
use Rattle.std.proofs.Common.{◌+◌, ◌*◌}
use Rattle.vortex_stats_expr.specs.TreeCode.{size_of}
use Rattle.vortex_table_text.proofs.predicates.+predicate.Given as goal

abbrev pub decreases-push_predicate : goal.decreases-push_predicate
decreases-push_predicate l = 4 * size_of l.predicate.now

abbrev pub decreases-push_unary : goal.decreases-push_unary
decreases-push_unary l = 4 * size_of l.x.now + 1

abbrev pub decreases-push_binary : goal.decreases-push_binary
decreases-push_binary l = 4 * (size_of l.x.now + size_of l.y.now) + 2

abbrev pub decreases-push_between : goal.decreases-push_between
decreases-push_between l = 4 * (size_of l.x.now + size_of l.lower.now + size_of l.upper.now) + 3
