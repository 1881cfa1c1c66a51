use Rattle.std.proofs.Common.{arith}
use Rattle.serde_json.specs.View.{view}
use Rattle.vortex_table_request.proofs.command.read_value_command.Goals as goal

pub returns-in-Compact : goal.returns-in-Compact
returns-in-Compact c =
    let read = c.read_compact.ensures (view c.args.value.now) in
    (grind (arith, read.0), read.1)
