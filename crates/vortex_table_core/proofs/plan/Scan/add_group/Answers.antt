use Rattle.std.proofs.Common.{◌≡◌, refl, sym, ap, ◌∙◌, ◌+◌, ◌*◌, map}
use Rattle.std.specs.Prelude.{is_some}
use Rattle.vortex_model_table.specs.Table.{bound_length}
use Rattle.vortex_model_table.specs.Scan.{saturated, one_if, is_many}
use Rattle.vortex_table_chunk.specs.Chunk.{chunk_rows}
use Rattle.vortex_stats_bind.specs.Bound.{expression_of}
use Rattle.vortex_table_core.specs.Group.{chunks_of}
use Rattle.vortex_table_core.specs.Plan.{table_in, question_in, answer_by}
use Rattle.vortex_table_core.specs.Progress.{group_proofs}
use Rattle.vortex_table_core.proofs.Progress.{saturated_once}
use Rattle.vortex_table_chunk.specs.Formed.{is_formed}
use Rattle.vortex_table_core.proofs.Added.{as_there, stopped}
use Rattle.vortex_table_core.proofs.Groups.{formed_in, group_skipped, group_entered}
use Rattle.vortex_table_core.proofs.Proven.{many_if}
use Rattle.vortex_table_core.proofs.plan.Scan.add_group.Goals as goal

pub returns-then-skipped-clause-found : goal.returns-then-skipped-clause-found
returns-then-skipped-clause-found c =
    let plan = c.args.self.now in let g = c.args.group.now in let all = plan.table.now.chunks.items in
    let t = table_in plan in let own = chunks_of all g in let old = c.args.answer.now in
    let formed = formed_in (is_formed (bound_length t) t.kind) g all plan.table.now.formed in
    let tried : one_if (is_some plan.prepared.now.falsifier) * one_if (is_some g.joined) ≡ group_proofs (question_in plan) (is_many (map chunk_rows own)) =
    (λ i. one_if (as_there expression_of plan.prepared.now.falsifier i) * one_if ((as_there (λ v. v.items) g.joined ∙ many_if plan c.requires.plan g own formed c.requires.group _ c.requires.group.statistics) i)) in
    group_skipped plan c.requires.plan g own formed c.requires.group (answer_by plan old) _ (sym (c.is_skipped-skipped.ensures own formed c.requires.group) ∙ c.if-skipped.true)
    c.requires.counted.tested refl refl c.in_ok-push_numbers.ensures refl refl
    (c.saturating_add-answer.ensures ∙ stopped (old.proofs + c.proofs_at_group.result) ∙ ap (λ m. saturated (old.proofs + m)) (c.proofs_at_group.ensures ∙ tried))

pub returns-clause-found : goal.returns-clause-found
returns-clause-found c =
    let plan = c.args.self.now in let g = c.args.group.now in let all = plan.table.now.chunks.items in
    let t = table_in plan in let own = chunks_of all g in let old = c.args.answer.now in
    let formed = formed_in (is_formed (bound_length t) t.kind) g all plan.table.now.formed in
    let tried : one_if (is_some plan.prepared.now.falsifier) * one_if (is_some g.joined) ≡ group_proofs (question_in plan) (is_many (map chunk_rows own)) =
    (λ i. one_if (as_there expression_of plan.prepared.now.falsifier i) * one_if ((as_there (λ v. v.items) g.joined ∙ many_if plan c.requires.plan g own formed c.requires.group _ c.requires.group.statistics) i)) in
    let a = answer_by plan old in
    let proofs : c.saturating_add-answer.result ≡ saturated (old.proofs + group_proofs (question_in plan) (is_many (map chunk_rows own))) =
    c.saturating_add-answer.ensures ∙ stopped (old.proofs + c.proofs_at_group.result) ∙ ap (λ m. saturated (old.proofs + m)) (c.proofs_at_group.ensures ∙ tried) in
    let mid = answer_by plan (record {
      selections = old.selections;
      skipped = old.skipped;
      whole = old.whole;
      rows_tested = old.rows_tested;
      proofs = c.saturating_add-answer.result;
    }) in
    group_entered plan c.requires.plan g own formed c.requires.group a _ mid (sym (c.is_skipped-skipped.ensures own formed c.requires.group) ∙ c.if-skipped.false)
    (λ i. record {
      rows = a.rows;
      kind = a.kind;
      skipped = a.skipped;
      whole = a.whole;
      rows_tested = a.rows_tested;
      proofs = proofs i;
    })
    c.in_ok-add_range.ensures.found

pub add_range-requires-clause-counted : goal.add_range-requires-clause-counted
add_range-requires-clause-counted c =
    let now = c.saturating_add-answer.ensures ∙ stopped (c.args.answer.now.proofs + c.proofs_at_group.result) in
    record {
      tested = c.requires.counted.tested;
      proofs = ap saturated now ∙ saturated_once (c.args.answer.now.proofs + c.proofs_at_group.result) ∙ sym now;
    }
