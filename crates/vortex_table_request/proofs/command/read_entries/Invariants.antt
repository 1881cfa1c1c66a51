use Rattle.std.proofs.Common.{◌≡◌, ℕ, List, ◌++◌, option_map, map, drop}
use Rattle.serde_json.specs.View.{items_view}
use Rattle.vortex_model.specs.Path.{Step}
use Rattle.vortex_table_request.specs.Line.{entries_of}
use Rattle.vortex_table_request.specs.View.{entry_of}
use Rattle.vortex_table_request.proofs.command.read_entries.Given as goal

-- the entries so far and those of the rest are the entries of all
abbrev pub invariant-loop-item : goal.invariant-loop-item
invariant-loop-item l =
    option_map (λ (es : List (List Step × ℕ)). map entry_of l.entries.items ++ es) (entries_of (items_view (drop l.item-index l.items))) ≡ entries_of (items_view l.items)
