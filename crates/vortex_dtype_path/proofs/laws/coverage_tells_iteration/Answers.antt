use Rattle.std.specs.Vec.Iter.{into_iter_items}
use Rattle.vortex_dtype_path.specs.Steps.{is_among}
use Rattle.vortex_dtype_path.specs.View.{paths_of}
use Rattle.vortex_dtype_path.specs.Sets.{is_inserted}
use Rattle.vortex_dtype_path.proofs.Coverage.{listed_alike}
use Rattle.vortex_dtype_path.proofs.laws.coverage_tells_iteration.Goals as goal

pub returns-clause-tells : goal.returns-clause-tells
returns-clause-tells c =
    listed_alike
    (is_inserted c.args.left)
    (is_inserted c.args.right)
    (is_among (paths_of (into_iter_items c.in_ok-lefts.lefts)))
    (is_among (paths_of (into_iter_items c.in_ok-rights.rights)))
    c.in_ok-lefts.ensures.listed
    c.in_ok-rights.ensures.listed
