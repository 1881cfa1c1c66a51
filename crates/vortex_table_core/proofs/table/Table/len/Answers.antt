use Rattle.std.proofs.Common.{sym, ◌∙◌}
use Rattle.vortex_table_core.proofs.Counts.{all_rows}
use Rattle.vortex_table_core.proofs.table.Table.len.Goals as goal

pub returns : goal.returns
returns c = sym c.args.self.now.counted ∙ sym (all_rows c.args.self.now.chunks.items)
