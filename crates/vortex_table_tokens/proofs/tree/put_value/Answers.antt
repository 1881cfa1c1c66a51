use Rattle.std.proofs.Common.{◌≡◌, string_bytes, ap, ◌∙◌, rules}
use Rattle.serde_json.specs.Data.{put}
use Rattle.serde_json.specs.View.{view, members_view}
use Rattle.serde_json.proofs.Views.{members_view-insert_entry}
use Rattle.vortex_table_tokens.proofs.tree.put_value.Goals as goal

pub returns : goal.returns
returns c =
    let old = c.args.values.now.entries in
    let v = c.args.value in
    let copied : string_bytes c.in_ok-key.key ≡ c.args.name.now = search rules in
    ap members_view c.in_ok-insert.ensures.entries ∙ members_view-insert_entry old c.in_ok-key.key v ∙ ap (λ name. put name (view v) (members_view old)) copied
