use Rattle.std.proofs.Common.{◌+◌, sym, subst, arith}
use Rattle.vortex_arrays_rebuild.proofs.PlaceLemmas.{Placed, room_left, placed_more, placed_all}
use Rattle.vortex_arrays_rebuild.proofs.runs.positions_of_runs.Goals as goal

pub put_positions-next-requires-clause-room : goal.put_positions-next-requires-clause-room
put_positions-next-requires-clause-room c = room_left c.loop-i.places.items c.args.runs.now.list.items c.loop-i.i c.loop-i.next c.index-run.result.now (omega arith) c.index-run.ensures c.loop-i.invariant

pub loop-i-preserved : goal.loop-i-preserved
loop-i-preserved c = subst (λ n. Placed c.put_positions-next.new.places.items c.args.runs.now.list.items (c.loop-i.i + 1) n) (sym c.put_positions-next.ensures.next) (placed_more c.loop-i.places.items c.put_positions-next.new.places.items c.args.runs.now.list.items c.loop-i.i c.loop-i.next c.index-run.result.now (omega arith) c.index-run.ensures c.put_positions-next.ensures.front c.put_positions-next.ensures.same c.loop-i.invariant)

pub returns : goal.returns
returns c = placed_all c.loop-i.places.items c.args.runs.now.list.items c.loop-i.i c.loop-i.next (omega arith) c.loop-i.invariant
