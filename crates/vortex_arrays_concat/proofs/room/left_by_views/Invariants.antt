use Rattle.vortex_arrays_concat.proofs.ArrayRoom.{ViewsTook}
use Rattle.vortex_arrays_concat.proofs.room.left_by_views.Given as goal

abbrev pub invariant-loop-view : goal.invariant-loop-view
invariant-loop-view l = ViewsTook l.views l.view-index l.rest l.left
