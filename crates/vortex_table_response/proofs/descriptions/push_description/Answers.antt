use Rattle.std.proofs.Common.{ℕ, List, ◌++◌, ap, ◌∙◌}
use Rattle.vortex_table_response.proofs.Described.{described}
use Rattle.vortex_table_response.proofs.descriptions.push_description.Goals as goal

pub returns : goal.returns
returns c = λ z is.
    c.in_ok-push_members.ensures ∙ ap (λ (text : List ℕ). c.args.out.now.items ++ text) (described c.args.description.now z is)
