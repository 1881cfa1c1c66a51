use Rattle.std.proofs.Common.{◌<◌, length, arith}
use Rattle.std.proofs.lemmas.Grind.{common_steps}
use Rattle.vortex_table_core.proofs.GroupCounts.{group_counted}
use Rattle.vortex_table_core.proofs.table.Table.group_len.Goals as goal

pub returns : goal.returns
returns c =
    let t = c.args.self.now in
    let inside : c.args.group < length t.groups = grind (arith, common_steps) in
    (grind (arith, common_steps), group_counted t c.args.group c.item.result.now inside c.item.ensures)
