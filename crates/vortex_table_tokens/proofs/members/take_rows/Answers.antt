use Rattle.std.proofs.Common.{◌≡◌, codes, ap, ◌∙◌, rules}
use Rattle.serde_json.specs.Data.{null, put}
use Rattle.serde_json.specs.View.{view, members_view}
use Rattle.serde_json.specs.declared.value.Value.{Null, the_lemmas}
use Rattle.vortex_table_tokens.proofs.MemberLemmas.{rows_taken}
use Rattle.vortex_table_tokens.proofs.members.take_rows.Goals as goal

pub returns : goal.returns
returns c =
    let old = members_view c.args.line.now.values.entries in
    let seen : view Null ≡ null = search (rules, the_lemmas) in
    let is = c.in_ok-put_value.ensures ∙ ap (λ d. put (codes "rows") d old) seen in
    let v = c.in_ok-array.ensures.rows in
    (v.0, v.1, v.2, λ ms h. rows_taken ms old _ c.args.line.now.rows c.in_ok-array.array v.0 v.2 is c.in_ok-array.ensures.kind v.3 h)
