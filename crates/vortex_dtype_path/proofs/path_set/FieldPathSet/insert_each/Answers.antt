use Rattle.std.proofs.Common.{◌≡◌, ◌∙◌, ◌++◌, ◌∷◌, ◌||◌, [], List, false}
use Rattle.std.specs.Iterator.{Yields}
use Rattle.std.proofs.iter.Next.{again, Yields-more}
use Rattle.vortex_model.specs.Path.{Step}
use Rattle.vortex_dtype_path.specs.Steps.{is_among}
use Rattle.vortex_dtype_path.specs.View.{steps_of, paths_of}
use Rattle.vortex_dtype_path.specs.Sets.{is_inserted}
use Rattle.vortex_dtype_path.specs.declared.path.FieldPath.{FieldPath}
use Rattle.vortex_dtype_path.proofs.Nodes.{on_err}
use Rattle.vortex_dtype_path.proofs.Sets.{one_inserted}
use Rattle.vortex_dtype_path.proofs.path_set.FieldPathSet.insert_each.Goals as goal

pub loop-path-preserved : goal.loop-path-preserved
loop-path-preserved g c =
    let i = c.loop-path.invariant in
    again i c.in-Some.path c.in-Some.is (c.next.ensures.steps, c.next.ensures.goes) (λ q. one_inserted i.seen c.in-Some.path q _ _ _ (c.in_ok-insert_path.ensures.ok q) (i.holds q))

pub returns-in_err-insert_path-clause-err : goal.returns-in_err-insert_path-clause-err
returns-in_err-insert_path-clause-err g c =
    let i = c.loop-path.invariant in
    let old = c.args.self.now in
    let new = c.insert_path.new.self in
    let steps = g.I.Iterator.next_gives in
    let stays = c.in_err-insert_path.ensures.err in
    let all : (xs : List FieldPath) × (refused : FieldPath) × Yields steps c.args.paths.now (xs ++ refused ∷ []) c.next.new.self × ((q : List Step) → is_inserted new q ≡ (is_among (paths_of xs) q || is_inserted old q)) × (is_inserted new (steps_of refused) ≡ false) = (
      i.seen,
      c.in-Some.path,
      Yields-more steps c.args.paths.now i.seen c.loop-path.paths c.in-Some.path c.next.new.self i.gave c.in-Some.ensures.steps,
      λ q. stays q ∙ i.holds q,
      stays (steps_of c.in-Some.path) ∙ c.in_err-insert_path.ensures.refused,
    ) in
    on_err _ _ all
