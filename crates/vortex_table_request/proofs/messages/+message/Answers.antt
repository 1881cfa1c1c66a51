use Rattle.std.proofs.Common.{◌≤◌, ◌<◌, Some, sym, arith, codes, ap, ◌∙◌}
use Rattle.serde_json.specs.Data.{depth, items_depth}
use Rattle.serde_json.specs.View.{view, items_view}
use Rattle.vortex_table_request.proofs.Trees.{tree_parts, get_depth, as_array_depth, item_depth}
use Rattle.vortex_table_request.proofs.messages.+message.Goals as goal

pub read_message-read_children-requires : goal.read_message-read_children-requires
read_message-read_children-requires t c =
    let e : depth (view c.in-Some.list.now) < depth (view c.args.value.now) = get_depth (codes "children") _ _ (sym c.in-Some.ensures) in
    (omega (arith, e, c.decreases), tt)

pub read_messages-read_message-requires : goal.read_messages-read_message-requires
read_messages-read_message-requires t c =
    let e : depth (view c.item-item.result) ≤ items_depth (items_view c.args.items.now) = item_depth _ c.loop-item.item-index _ (omega arith) c.item-item.is in
    (omega (arith, e, c.decreases), tt)

pub read_children-read_messages-requires : goal.read_children-read_messages-requires
read_children-read_messages-requires t c =
    let e : items_depth (items_view c.deref.result.now) < depth (view c.args.list.now) =
    as_array_depth _ _ (sym c.in-Some.ensures ∙ ap (λ vs. Some (items_view vs)) (sym c.deref.ensures.value)) in
    (omega (arith, e, c.decreases), tt)

pub read_message-returns-in_err-children-in-Some : goal.read_message-returns-in_err-children-in-Some
read_message-returns-in_err-children-in-Some t c = grind (arith, tree_parts)

pub read_message-returns-in_ok-children-in-Some : goal.read_message-returns-in_ok-children-in-Some
read_message-returns-in_ok-children-in-Some t c = grind (arith, tree_parts)

pub read_message-returns-in-None : goal.read_message-returns-in-None
read_message-returns-in-None t c = grind (arith, tree_parts)
