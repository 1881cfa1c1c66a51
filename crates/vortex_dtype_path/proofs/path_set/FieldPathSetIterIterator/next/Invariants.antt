use Rattle.std.proofs.Common.{◌≡◌, drop}
use Rattle.vortex_dtype_path.specs.Sets.{paths_in}
use Rattle.vortex_dtype_path.proofs.path_set.FieldPathSetIterIterator.next.Given as goal

abbrev pub invariant-loop-i : goal.invariant-loop-i
invariant-loop-i l = paths_in (drop l.i l.nodes) ≡ paths_in l.nodes
