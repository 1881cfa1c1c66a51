use Rattle.std.proofs.Common.{◌∙◌, sym, ap, subst}
use Rattle.vortex_dtype_path.specs.Steps.{is_among, AreDistinct}
use Rattle.vortex_dtype_path.specs.View.{paths_of}
use Rattle.vortex_dtype_path.specs.Sets.{paths_in}
use Rattle.vortex_dtype_path.proofs.Kept.{distinct, paths_of-in}
use Rattle.vortex_dtype_path.proofs.path_set.FieldPathSet.iter.Goals as goal

pub returns-clause-listed : goal.returns-clause-listed
returns-clause-listed c =
    let all = ap (λ ns. paths_of (paths_in ns)) c.as_slice.ensures.value ∙ paths_of-in c.args.self.now.nodes.items in
    λ q. ap (λ l. is_among l q) all

pub returns-clause-once : goal.returns-clause-once
returns-clause-once c =
    let all = ap (λ ns. paths_of (paths_in ns)) c.as_slice.ensures.value ∙ paths_of-in c.args.self.now.nodes.items in
    subst AreDistinct (sym all) (distinct _ c.args.self.now.tree)
