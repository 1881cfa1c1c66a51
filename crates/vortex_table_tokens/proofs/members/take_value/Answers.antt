use Rattle.serde_json.specs.View.{view, members_view}
use Rattle.vortex_table_tokens.proofs.MemberLemmas.{value_taken}
use Rattle.vortex_table_tokens.proofs.members.take_value.Goals as goal

pub returns : goal.returns
returns c =
    let line = c.args.line.now in
    let v = view c.in_ok-value.value in (
      v,
      c.in_ok-value.ensures.begins,
      c.in_ok-value.ensures.whole,
      λ ms h. value_taken ms (members_view line.values.entries) _ line.rows c.args.name.now v c.requires c.in_ok-check_late_type.ensures c.in_ok-value.ensures.whole c.in_ok-put_value.ensures h,
    )
