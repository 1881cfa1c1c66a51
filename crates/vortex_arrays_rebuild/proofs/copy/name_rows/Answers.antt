use Rattle.std.proofs.Common.{◌≡◌, ℕ, List, map, pos, false, length, get_or, ap, sym, subst, ◌∙◌}
use Rattle.std.proofs.lemmas.Result.{IfOk-weaker}
use Rattle.vortex_model.specs.LogicalType.{u64}
use Rattle.vortex_arrays_model.specs.Layout.{numbers, required, dictionary}
use Rattle.vortex_arrays_model.specs.Picks.{Picks}
use Rattle.vortex_arrays_rebuild.specs.Runs.{positions_in}
use Rattle.vortex_arrays_rebuild.proofs.NameLemmas.{named_rows, named_sound}
use Rattle.vortex_arrays_rebuild.proofs.copy.name_rows.Goals as goal

pub of_dict-requires : goal.of_dict-requires
of_dict-requires c =
    let made : c.in_ok-codes.codes ≡ numbers u64 (map pos (positions_in c.args.runs.now.list.items)) required = c.in_ok-codes.ensures ∙ ap (λ ps. numbers u64 (map pos ps) required) c.in_ok-positions.ensures in
    λ codes _. rw c.in_ok-clone.ensures.cases (named_sound c.args.array.now c.in_ok-codes.codes c.args.runs.now.limit c.args.runs.now.list.items made codes c.len-2.ensures.sound c.requires c.args.runs.now.within)

pub returns : goal.returns
returns c =
    let ps : List ℕ = positions_in c.args.runs.now.list.items in
    let made : c.in_ok-codes.codes ≡ numbers u64 (map pos (positions_in c.args.runs.now.list.items)) required = c.in_ok-codes.ensures ∙ ap (λ ps. numbers u64 (map pos ps) required) c.in_ok-positions.ensures in
    let p = named_rows c.args.array.now c.in_ok-codes.codes c.args.runs.now.limit c.args.runs.now.list.items made c.len.ensures.sound c.len-2.ensures.sound c.requires c.args.runs.now.within in
    IfOk-weaker c.of_dict.result _ _ (λ r is. subst (λ x. Picks c.args.array.now x (length ps) (λ i. get_or ps i 0)) (sym (is ∙ ap (λ v. dictionary c.in_ok-codes.codes v false) c.in_ok-clone.ensures.cases)) p) c.of_dict.ensures
