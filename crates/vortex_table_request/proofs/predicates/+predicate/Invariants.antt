use Rattle.std.proofs.Common.{◌+◌, ◌*◌}
use Rattle.serde_json.specs.Data.{depth}
use Rattle.serde_json.specs.View.{view}
use Rattle.vortex_table_request.proofs.predicates.+predicate.Given as goal

abbrev pub decreases-read_predicate : goal.decreases-read_predicate
decreases-read_predicate l = 2 * depth (view l.value.now) + 1

abbrev pub decreases-read_operand : goal.decreases-read_operand
decreases-read_operand l = 2 * depth (view l.value.now)
