use Rattle.std.proofs.Common.{sym, ◌∙◌}
use Rattle.std.proofs.lemmas.List.{length-map}
use Rattle.vortex_stats_select.specs.Wants.{row_among}
use Rattle.vortex_table_chunk.specs.Chunk.{chunk_rows}
use Rattle.vortex_table_chunk.proofs.TypedRows.{chunk_counted}
use Rattle.vortex_table_chunk.proofs.kept.ChunkColumns.len.Goals as goal

pub returns : goal.returns
returns c =
    c.args.self.now.counted
    ∙ sym (length-map (chunk_rows c.args.self.now) (row_among 1) ∙ chunk_counted c.args.self.now)
