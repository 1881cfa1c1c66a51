use Rattle.std.proofs.Common.{◌≡◌, ℕ, List, ◌++◌, option_map, drop}
use Rattle.serde_json.specs.View.{items_view}
use Rattle.vortex_table_request.specs.Kinds.{strings_of}
use Rattle.vortex_table_request.proofs.kinds.read_names.Given as goal

-- the names so far and those of the rest are the names of all
abbrev pub invariant-loop-item : goal.invariant-loop-item
invariant-loop-item l = option_map (λ (ns : List (List ℕ)). l.names.items ++ ns) (strings_of (items_view (drop l.item-index l.items))) ≡ strings_of (items_view l.items)
