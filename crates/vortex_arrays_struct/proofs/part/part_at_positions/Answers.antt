use Rattle.std.proofs.Common.{◌≡◌, ◌+◌, ◌∷◌, [], None, drop, get_or, subst}
use Rattle.std.specs.Prelude.{MatchOption}
use Rattle.std.proofs.lemmas.List.{drop_more}
use Rattle.vortex_model.specs.Path.{type_at}
use Rattle.vortex_arrays_model.specs.Layout.{array_type_of}
use Rattle.vortex_arrays_model.specs.Column.{IsPart}
use Rattle.vortex_arrays_struct.proofs.Parts.{IsOnTheWay, way_goes_on}
use Rattle.vortex_arrays_struct.proofs.part.part_at_positions.Goals as goal

pub loop-position-preserved : goal.loop-position-preserved
loop-position-preserved c =
    let all = c.args.positions.now in let i = c.loop-position.position-index in let part = c.loop-position.part in let position = get_or all i 0 in
    let made = subst (λ o. MatchOption o (type_at (array_type_of part) (position ∷ []) ≡ None) (λ f. IsPart part (position ∷ []) f)) c.in-Some.is c.in_ok-field.ensures.made in
    way_goes_on c.args.array.now part c.in-Some.field all position (drop (i + 1) all)
    (subst (IsOnTheWay c.args.array.now all part) (drop_more all i 0 c.loop-position-test.true) c.loop-position.invariant) made
