use Rattle.std.proofs.Common.{◌≡◌, ◌∙◌, ◌+◌, ◌++◌, ap, refl}
use Rattle.vortex_model_table.specs.Scan.{Outcome, is_skipped, is_whole, saturated}
use Rattle.vortex_table_select.specs.Selected.{rows_in, cut_rows}
use Rattle.vortex_table_chunk.specs.Chunk.{chunk_rows}
use Rattle.vortex_stats_bind.specs.Bound.{expression_of}
use Rattle.vortex_table_core.specs.Outcome.{outcome_of}
use Rattle.vortex_table_core.specs.Plan.{question_in, answer_by}
use Rattle.vortex_table_core.specs.Progress.{outcome_to, found_rows, push_if, tested_rows, proofs_at}
use Rattle.vortex_table_core.proofs.Added.{added, as_there, stopped}
use Rattle.vortex_table_core.proofs.plan.Scan.add_chunk.Goals as goal

pub returns-clause-found : goal.returns-clause-found
returns-clause-found c =
    let plan = c.args.self.now in
    let old = c.args.answer.now in
    let rows = chunk_rows c.args.chunk.now in
    let q = question_in plan in
    let o : Outcome = outcome_to q rows in
    let out : outcome_of c.outcome-outcome.result ≡ o = c.outcome-outcome.ensures in
    added q c.args.number rows o (answer_by plan old) _
    (c.in_ok-find_rows.ensures.rows ∙ ap (λ p. cut_rows plan.prepared.now.cut (rows_in old.selections.items) ++ found_rows q p rows) out)
    refl
    (c.in_ok-push_if.ensures ∙ ap (λ t. push_if t c.args.number old.skipped.items) (c.is_skipped.ensures ∙ ap is_skipped out))
    (c.in_ok-push_if-2.ensures ∙ ap (λ t. push_if t c.args.number old.whole.items) (c.is_whole.ensures ∙ ap is_whole out))
    (c.saturating_add-answer.ensures ∙ stopped (old.rows_tested + c.tested_rows.result) ∙ ap (λ n. saturated (old.rows_tested + n)) (c.tested_rows.ensures ∙ ap (λ p. tested_rows p rows) out))
    (c.saturating_add-answer-2.ensures ∙ stopped (old.proofs + c.proofs_at.result)
    ∙ ap (λ n. saturated (old.proofs + n)) (c.proofs_at.ensures ∙ (λ j. proofs_at (as_there expression_of plan.prepared.now.falsifier j) (as_there expression_of plan.prepared.now.satisfier j) (out j))))
