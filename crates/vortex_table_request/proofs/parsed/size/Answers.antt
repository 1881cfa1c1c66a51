use Rattle.std.proofs.Common.{Some, option_map, ap, sym, ◌∙◌}
use Rattle.serde_json.specs.Events.{members_len}
use Rattle.serde_json.proofs.Views.{members_len-members_view}
use Rattle.vortex_table_request.proofs.parsed.size.Goals as goal

pub returns : goal.returns
returns c = ap Some (c.len.ensures.len ∙ sym (members_len-members_view c.in_ok-map.map.now.entries)) ∙ ap (option_map members_len) c.in_ok-map.ensures
