use Rattle.std.proofs.Common.{ap, ◌∙◌, IfSome, subst}
use Rattle.std.proofs.lemmas.Result.{IfOk-weaker}
use Rattle.serde_json.specs.Data.{object}
use Rattle.serde_json.proofs.Views.{view-Object}
use Rattle.vortex_table_tokens.specs.Members.{HasRows}
use Rattle.vortex_table_tokens.proofs.line.command_of_members.Goals as goal

pub returns-in-Some : goal.returns-in-Some
returns-in-Some c =
    IfOk-weaker c.append_with.result _ _ (λ command f ms h. f ms (view-Object _ ∙ ap object h.values) (subst (λ o. IfSome o (HasRows ms)) c.in-Some.is h.rows)) c.append_with.ensures
