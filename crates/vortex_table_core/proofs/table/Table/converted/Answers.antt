use Rattle.std.proofs.Common.{ap, arith}
use Rattle.vortex_table_chunk.specs.Chunk.{row_count}
use Rattle.vortex_table_core.proofs.Counts.{all_rows}
use Rattle.vortex_table_core.proofs.table.Table.converted.Goals as goal

pub retype_chunks-requires-clause-fits : goal.retype_chunks-requires-clause-fits
retype_chunks-requires-clause-fits c =
    let same = ap row_count c.deref.ensures.value in let rows = all_rows c.args.self.now.chunks.items in let len = c.len.ensures in omega (arith, same, rows, len)
