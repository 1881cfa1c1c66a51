use Rattle.vortex_table_zonemaps.proofs.Held.{Putting}
use Rattle.vortex_table_zonemaps.proofs.zone_maps.put_leaves.Given as goal

abbrev pub invariant-loop-index : goal.invariant-loop-index
invariant-loop-index l = Putting l.count l.bounds l.rows l.fn.leaves.items l.index l.leaves.items
