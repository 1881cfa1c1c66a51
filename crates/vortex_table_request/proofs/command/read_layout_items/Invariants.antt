use Rattle.std.proofs.Common.{◌≡◌, List, ◌++◌, option_map, map, drop}
use Rattle.serde_json.specs.View.{items_view}
use Rattle.vortex_table_request.specs.Line.{LayoutName, layouts_of}
use Rattle.vortex_table_request.specs.View.{layout_of}
use Rattle.vortex_table_request.proofs.command.read_layout_items.Given as goal

-- the layouts so far and those of the rest are the layouts of all
abbrev pub invariant-loop-item : goal.invariant-loop-item
invariant-loop-item l =
    option_map (λ (ls : List LayoutName). map layout_of l.layouts.items ++ ls) (layouts_of (items_view (drop l.item-index l.items))) ≡ layouts_of (items_view l.items)
