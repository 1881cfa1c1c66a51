use Rattle.std.proofs.Common.{ap, ◌∙◌, ◌+◌, ◌*◌}
use Rattle.vortex_model_table.specs.Scan.{one_if, saturated}
use Rattle.vortex_stats_bind.specs.Bound.{expression_of}
use Rattle.vortex_table_core.specs.Plan.{answer_by}
use Rattle.vortex_table_core.proofs.Added.{as_there, stopped}
use Rattle.vortex_table_core.proofs.plan.Scan.add_skipped.Goals as goal

pub returns-clause-found : goal.returns-clause-found
returns-clause-found c =
    let old = c.args.answer.now in let a = answer_by c.args.self.now old in
    λ j. record {
      rows = a.rows;
      kind = a.kind;
      skipped = c.in_ok-push_numbers.ensures j;
      whole = a.whole;
      rows_tested = a.rows_tested;
      proofs = (c.saturating_add-answer.ensures ∙ stopped (old.proofs + c.proofs_at_skipped.result)
          ∙ ap (λ n. saturated (old.proofs + n)) (c.proofs_at_skipped.ensures ∙ ap (λ b. c.args.count * one_if b) (as_there expression_of c.args.self.now.prepared.now.falsifier))) j;
    }
