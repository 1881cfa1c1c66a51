use Rattle.std.proofs.Common.{◌<◌, sym, arith}
use Rattle.serde_json.specs.Data.{depth}
use Rattle.serde_json.specs.View.{view}
use Rattle.vortex_table_request.proofs.Operands.{at_depth}
use Rattle.vortex_table_request.proofs.predicates.+predicate.Goals as goal

pub read_operand-read_predicate-requires : goal.read_operand-read_predicate-requires
read_operand-read_predicate-requires t c =
    let e : depth (view c.in-Some.operand.now) < depth (view c.args.value.now) = at_depth c.args.place _ _ (sym c.in-Some.ensures) in
    (omega (arith, e, c.decreases), tt)
