use Rattle.std.proofs.Common.{◌≡◌, drop}
use Rattle.serde_json.specs.View.{items_view, members_view}
use Rattle.vortex_table_request.specs.Parsed.{items_keep_whole, members_keep_whole}
use Rattle.vortex_table_request.proofs.parsed.+whole.Given as goal

-- the rest has only integers of 64 bits where all do
abbrev pub invariant-are_items_whole-loop-item : goal.invariant-are_items_whole-loop-item
invariant-are_items_whole-loop-item l = items_keep_whole (items_view (drop l.item-index l.item-items)) ≡ items_keep_whole (items_view l.item-items)

abbrev pub invariant-are_members_whole-loop-member : goal.invariant-are_members_whole-loop-member
invariant-are_members_whole-loop-member l = members_keep_whole (members_view l.member-iterator) ≡ members_keep_whole (members_view l.members.entries)
