use Rattle.std.proofs.Common.{◌≡◌, ◌++◌, ◌∷◌, ◌||◌, [], List, false}
use Rattle.std.specs.Iterator.{Yields}
use Rattle.vortex_model.specs.Path.{Step}
use Rattle.vortex_dtype_path.specs.Steps.{is_among}
use Rattle.vortex_dtype_path.specs.View.{steps_of, paths_of}
use Rattle.vortex_dtype_path.specs.Sets.{is_inserted}
use Rattle.vortex_dtype_path.specs.declared.path.FieldPath.{FieldPath}
use Rattle.vortex_dtype_path.proofs.Nodes.{on_err}
use Rattle.vortex_dtype_path.proofs.path_set.FieldPathSet.extend.Goals as goal

pub returns-in_err-insert_each-clause-err : goal.returns-in_err-insert_each-clause-err
returns-in_err-insert_each-clause-err g c =
    let old = c.args.self.now in
    let new = c.insert_each.new.self in
    let left = c.in_err-insert_each.ensures.err in
    let all : (xs : List FieldPath) × (refused : FieldPath) × (t : g.row.I.Denot) × Yields g.I.Iterator.next_gives c.args.paths (xs ++ refused ∷ []) t × ((q : List Step) → is_inserted new q ≡ (is_among (paths_of xs) q || is_inserted old q)) × (is_inserted new (steps_of refused) ≡ false) =
    (left.0, left.1, c.insert_each.new.paths, left.2, left.3, left.4) in
    on_err _ _ all
