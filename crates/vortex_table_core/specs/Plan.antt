-- A scan of a table, with what is made of it before its chunks.
use Rattle.std.specs.Prelude.{ℕ, List, Bool, map, option_map, take, drop}
use Rattle.vortex_model_table.specs.Table as model
use Rattle.vortex_model_table.specs.Scan.{ScanAnswer}
use Rattle.vortex_stats_bind.specs.Bound.{expression_of}
use Rattle.vortex_table_chunk.specs.declared.chunk.Chunk.{Chunk}
use Rattle.vortex_table_schema.specs.Leaves.{leaf_positions}
use Rattle.vortex_table_schema.specs.Cut.{paths_of}
use Rattle.vortex_table_plan.specs.Prepared.{IsPreparedFor}
use Rattle.vortex_table_select.specs.Selected.{answer_cut}
use Rattle.vortex_table_select.specs.declared.selection.ScanSelection.{ScanSelection}
use Rattle.vortex_table_zonemaps.specs.Proved.{proved_at, IsResolved}
use Rattle.vortex_table_zonemaps.specs.Stats.{zone_of}
use Rattle.vortex_table_core.specs.Progress.{Question}
use Rattle.vortex_table_core.specs.TableView.{table_of}
use Rattle.vortex_table_core.specs.declared.plan.Scan.{Scan}

-- the table that is scanned, and what is asked of it
abbrev pub table_in : Scan → model.Table
table_in plan = table_of plan.table.now

abbrev pub question_in : Scan → Question
question_in plan = record {
  table = table_in plan;
  paths = paths_of plan.paths.now;
  predicate = plan.predicate.now;
  falsifier = option_map expression_of plan.prepared.now.falsifier;
  satisfier = option_map expression_of plan.prepared.now.satisfier;
}

-- the answer whose rows a scan found, cut as it asks
abbrev pub answer_by : Scan → ScanSelection → ScanAnswer
answer_by plan found = answer_cut plan.prepared.now.cut found

-- the plan has what is prepared for its scan, with its proofs resolved to the table's leaves
pub record IsPlan (plan : Scan) : Type 0 where
  pub prepared : IsPreparedFor (table_in plan).kind (question_in plan).paths
      (question_in plan).predicate plan.prepared.now
  pub falsifier : IsResolved (leaf_positions (table_in plan).kind)
      plan.prepared.now.falsifier plan.falsifier
  pub satisfier : IsResolved (leaf_positions (table_in plan).kind)
      plan.prepared.now.satisfier plan.satisfier

-- ---- neighbouring chunks

abbrev pub chunks_in : Scan → ℕ → ℕ → List Chunk
chunks_in plan first count = take count (drop first plan.table.now.chunks.items)

-- whether the statistics of a chunk make the falsifier true
abbrev pub falsified_by : Scan → Chunk → Bool
falsified_by plan chunk = proved_at plan.falsifier (zone_of chunk)

-- for each chunk, whether its statistics make the falsifier true
abbrev pub falsified_in : Scan → List Chunk → List Bool
falsified_in plan chunks = map (falsified_by plan) chunks
