use Rattle.std.proofs.Common.{◌≡◌, ◌<◌, ◌++◌, map, flat_map, drop}
use Rattle.vortex_model_table.specs.Command.{names_of, scan}
use Rattle.vortex_model_table.specs.Expression.{HasFormedLiterals}
use Rattle.vortex_model_table.specs.Table.{answer}
use Rattle.vortex_dtype_path.specs.View.{steps_of}
use Rattle.vortex_scalar_core.specs.Scalar.{scalar_content}
use Rattle.vortex_table_core.specs.TableView.{table_of}
use Rattle.example_planner.specs.Split.{first_refusal}
use Rattle.example_planner.proofs.plan.gather.Given as goal

-- The rows so far and those that the parts that are left answer are all. The first refusal is that of the parts that are left.
abbrev pub invariant-loop-part : goal.invariant-loop-part
invariant-loop-part l = record {
  rows : map scalar_content l.rows.items ++ flat_map (λ part. answer part (map names_of (map steps_of l.paths)) l.predicate) (map table_of (drop l.part-index l.parts))
      ≡ flat_map (λ part. answer part (map names_of (map steps_of l.paths)) l.predicate) (map table_of l.parts);
  refusal : first_refusal (scan (map steps_of l.paths) l.predicate) (map table_of (drop l.part-index l.parts)) ≡ first_refusal (scan (map steps_of l.paths) l.predicate) (map table_of l.parts);
  formed : 0 < l.part-index → HasFormedLiterals l.predicate;
}
