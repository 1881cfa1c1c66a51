use Rattle.std.proofs.Common.{◌≡◌, [], map, take}
use Rattle.vortex_table_select.specs.Lists.{lists_of}
use Rattle.vortex_table_select.proofs.rows.empty_lists.Given as goal

abbrev pub invariant-loop-row : goal.invariant-loop-row
invariant-loop-row l = lists_of l.lists.items ≡ map (λ i. []) (take l._row-index l.rows)
