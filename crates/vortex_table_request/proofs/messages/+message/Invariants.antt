use Rattle.std.proofs.Common.{◌≡◌, ◌+◌, ◌*◌, List, ◌++◌, option_map, map, drop}
use Rattle.serde_json.specs.Data.{depth, items_depth}
use Rattle.serde_json.specs.View.{view, items_view}
use Rattle.vortex_dtype_proto.specs.Messages.{Tree}
use Rattle.vortex_dtype_proto.specs.View.{tree_of}
use Rattle.vortex_table_request.specs.Kinds.{trees_of_items}
use Rattle.vortex_table_request.proofs.messages.+message.Given as goal

abbrev pub decreases-read_message : goal.decreases-read_message
decreases-read_message l = 2 * depth (view l.value.now)

abbrev pub decreases-read_children : goal.decreases-read_children
decreases-read_children l = 2 * depth (view l.list.now)

abbrev pub decreases-read_messages : goal.decreases-read_messages
decreases-read_messages l = 2 * items_depth (items_view l.items.now) + 1

-- the trees so far and those of the rest are the trees of all
abbrev pub invariant-read_messages-loop-item : goal.invariant-read_messages-loop-item
invariant-read_messages-loop-item l =
    option_map (λ (ts : List Tree). map tree_of l.messages.items ++ ts) (trees_of_items (items_view (drop l.item-index l.items))) ≡ trees_of_items (items_view l.items)
