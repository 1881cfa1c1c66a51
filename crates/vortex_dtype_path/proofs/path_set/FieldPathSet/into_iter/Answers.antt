use Rattle.std.proofs.Common.{◌∙◌, sym, ap, subst, IsTrue, ◌↔◌}
use Rattle.vortex_dtype_path.specs.Steps.{is_among, AreDistinct, outermost_among}
use Rattle.vortex_dtype_path.specs.Coverage.{IsOutermost}
use Rattle.vortex_dtype_path.specs.View.{paths_of}
use Rattle.vortex_dtype_path.specs.Tree.{nodes_of, kept_paths}
use Rattle.vortex_dtype_path.proofs.Kept.{distinct}
use Rattle.vortex_dtype_path.proofs.Sets.{outermost, outermost_distinct}
use Rattle.vortex_dtype_path.proofs.path_set.FieldPathSet.into_iter.Goals as goal

pub returns-clause-listed : goal.returns-clause-listed
returns-clause-listed c =
    let ps = kept_paths (nodes_of c.args.self.nodes.items) in
    let all = sym (ap paths_of c.into_iter.ensures.rest ∙ c.in_ok-outermost.ensures ∙ ap (λ ns. outermost_among (kept_paths (nodes_of ns))) c.as_slice.ensures.value) in
    λ q. subst (λ l. IsTrue (is_among l q) ↔ IsOutermost (is_among ps) q) all (outermost ps q)

pub returns-clause-once : goal.returns-clause-once
returns-clause-once c =
    let ps = kept_paths (nodes_of c.args.self.nodes.items) in
    let all = sym (ap paths_of c.into_iter.ensures.rest ∙ c.in_ok-outermost.ensures ∙ ap (λ ns. outermost_among (kept_paths (nodes_of ns))) c.as_slice.ensures.value) in
    subst AreDistinct all (outermost_distinct ps (distinct _ c.args.self.tree))
