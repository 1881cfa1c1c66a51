use Rattle.std.proofs.Common.{sym, ap, ◌∙◌}
use Rattle.std.proofs.lemmas.Result.{IfOk-weaker}
use Rattle.vortex_stats_bind.specs.Bound.{value_type}
use Rattle.vortex_stats_expr.specs.Aggregate.{aggregate_of}
use Rattle.vortex_table_zonemaps.specs.Answers.{leaf_answer, answer_of}
use Rattle.vortex_table_zonemaps.proofs.Binding.{at_a_column}
use Rattle.vortex_table_zonemaps.proofs.bind.ZoneBinderStatBinder.bind_aggregate.Goals as goal

pub returns-in_default-index_of : goal.returns-in_default-index_of
returns-in_default-index_of c =
    let leaves = c.args.self.now.leaves.now in let x = c.args.input.now in let a = aggregate_of c.args.aggregate in
    ap (λ o. answer_of o (value_type x) a) (sym c.in_default-index_of.is ∙ c.index_of.ensures) ∙ at_a_column leaves x c.in-Some.path.now a c.in-Some.ensures.path

pub returns : goal.returns
returns c =
    let leaves = c.args.self.now.leaves.now in let x = c.args.input.now in let a = aggregate_of c.args.aggregate in
    IfOk-weaker c.leaf_answer.result _ _ (λ found is. is ∙ ap (λ k. leaf_answer c.in-Some-index_of.leaf k a) c.in_ok-dtype.ensures
    ∙ ap (λ o. answer_of o (value_type x) a) (sym c.in-Some-index_of.is ∙ c.index_of.ensures) ∙ at_a_column leaves x c.in-Some.path.now a c.in-Some.ensures.path)
    c.leaf_answer.ensures
