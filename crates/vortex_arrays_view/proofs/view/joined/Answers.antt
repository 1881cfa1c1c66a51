use Rattle.std.proofs.Common.{rules, ◌≡◌, ◌∙◌, ap, List, ℕ, [], ◌++◌, length}
use Rattle.std.proofs.lemmas.List.{append-nil}
use Rattle.vortex_arrays_view.proofs.Bytes.{four}
use Rattle.vortex_arrays_view.proofs.view.joined.Goals as goal

pub returns : goal.returns
returns c =
    let s : length c.args.size ≡ 4 = search rules in
    let p : length c.args.prefix ≡ 4 = search rules in
    let i : length c.args.index ≡ 4 = search rules in
    let o : length c.args.offset ≡ 4 = search rules in
    four c.args.size _ s ∙ ap (λ (r : List ℕ). c.args.size ++ r) (four c.args.prefix _ p ∙ ap (λ (r : List ℕ). c.args.prefix ++ r) (four c.args.index _ i ∙ ap (λ (r : List ℕ). c.args.index ++ r) (four c.args.offset [] o ∙ append-nil c.args.offset)))
