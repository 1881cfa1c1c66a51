use Rattle.std.proofs.Common.{sym, ap, ◌∙◌}
use Rattle.vortex_table_chunk.specs.Chunk.{chunk_rows}
use Rattle.vortex_table_chunk.proofs.TypedRows.{chunk_counted}
use Rattle.vortex_table_core.specs.Outcome.{outcome_of}
use Rattle.vortex_table_core.specs.Progress.{tested_rows}
use Rattle.vortex_table_core.proofs.plan.tested_rows.Goals as goal

pub returns-in-Filter : goal.returns-in-Filter
returns-in-Filter c =
    c.args.chunk.now.counted ∙ sym (chunk_counted c.args.chunk.now) ∙ sym (ap (λ o. tested_rows (outcome_of o) (chunk_rows c.args.chunk.now)) c.in-Filter.is)

pub returns-in-Skip : goal.returns-in-Skip
returns-in-Skip c = sym (ap (λ o. tested_rows (outcome_of o) (chunk_rows c.args.chunk.now)) c.in-Skip.is)
