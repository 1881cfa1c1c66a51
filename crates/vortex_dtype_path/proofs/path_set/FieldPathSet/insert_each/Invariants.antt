use Rattle.std.proofs.Common.{◌≡◌, ◌||◌, List}
use Rattle.std.specs.Iterator.{EndsFrom, items_left}
use Rattle.std.proofs.iter.Next.{Ran}
use Rattle.vortex_model.specs.Path.{Step}
use Rattle.vortex_dtype_path.specs.Steps.{is_among}
use Rattle.vortex_dtype_path.specs.View.{paths_of}
use Rattle.vortex_dtype_path.specs.Sets.{is_inserted}
use Rattle.vortex_dtype_path.proofs.path_set.FieldPathSet.insert_each.Given as goal

abbrev pub invariant-loop-path : goal.invariant-loop-path
invariant-loop-path g l =
    let it = g.I.Iterator in
    Ran it.can_next (EndsFrom it.remaining) (items_left it.remaining) it.next_gives (λ xs. (q : List Step) → is_inserted l.self q ≡ (is_among (paths_of xs) q || is_inserted l.initial.self q)) l.initial.paths l.paths

abbrev pub decreases-loop-path : goal.decreases-loop-path
decreases-loop-path g l = items_left g.I.Iterator.remaining l.paths
