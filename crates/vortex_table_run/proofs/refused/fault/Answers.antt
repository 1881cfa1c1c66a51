use Rattle.std.proofs.Common.{ℕ, Option, ap, ◌∙◌, rules}
use Rattle.vortex_table_response.specs.Text.{refusal_parts}
use Rattle.vortex_table_run.proofs.Errors.{error_text}
use Rattle.vortex_table_run.proofs.refused.fault.Goals as goal

pub returns-clause-said : goal.returns-clause-said
returns-clause-said c = λ out rule.
    c.refusal.ensures ∙ ap (λ (place : Option ℕ). refusal_parts place c.number.result c.name.result.now) c.index.ensures
    ∙ error_text c.args.error c.number.result c.name.result.now (search rules) rule
    c.name.ensures.name c.number.ensures.refusal c.number.ensures.total
