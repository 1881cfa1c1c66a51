use Rattle.std.proofs.Common.{◌≡◌, ℤ, List, ◌++◌, option_map, drop}
use Rattle.serde_json.specs.View.{items_view}
use Rattle.vortex_table_request.specs.Kinds.{integers_of}
use Rattle.vortex_table_request.proofs.kinds.read_integers.Given as goal

-- the integers so far and those of the rest are the integers of all
abbrev pub invariant-loop-item : goal.invariant-loop-item
invariant-loop-item l = option_map (λ (zs : List ℤ). l.numbers.items ++ zs) (integers_of (items_view (drop l.item-index l.items))) ≡ integers_of (items_view l.items)
