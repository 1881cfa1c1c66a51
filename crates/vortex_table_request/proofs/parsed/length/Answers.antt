use Rattle.std.proofs.Common.{Some, option_map, length, ap, sym, ◌∙◌}
use Rattle.serde_json.specs.Events.{items_len}
use Rattle.serde_json.proofs.Views.{items_len-items_view}
use Rattle.vortex_table_request.proofs.parsed.length.Goals as goal

pub returns : goal.returns
returns c = ap Some (ap length c.as_slice.ensures.value ∙ sym (items_len-items_view c.in_ok-list.list.now.items)) ∙ ap (option_map items_len) c.in_ok-list.ensures
