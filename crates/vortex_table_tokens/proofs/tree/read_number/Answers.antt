use Rattle.std.proofs.Common.{◌≡◌, ap, ◌∙◌, rules}
use Rattle.std.specs.Int.{w128}
use mir.Val.{to_z, of_z}
use Rattle.serde_json.specs.Data.{number}
use Rattle.serde_json.specs.Find.{of_integer}
use Rattle.serde_json.specs.View.{view, number_view}
use Rattle.serde_json.specs.declared.value.Value.{Number, the_lemmas}
use Rattle.vortex_table_tokens.proofs.tree.read_number.Goals as goal

pub returns-in-Some : goal.returns-in-Some
returns-in-Some c =
    let z = c.in_ok-integer.integer in
    let same : to_z w128 (of_z w128 z) ≡ z = search rules in
    let is : number_view c.in-Some.number ≡ of_integer z = c.in-Some.ensures ∙ ap of_integer same in
    let seen : view (Number c.in-Some.number) ≡ number (number_view c.in-Some.number) = search (rules, the_lemmas) in
    (z, c.in_ok-integer.ensures, seen ∙ ap number is)
