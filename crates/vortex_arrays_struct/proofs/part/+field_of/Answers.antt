use Rattle.std.proofs.Common.{◌≡◌, ℕ, ◌∷◌, [], None, sym, ap, subst, ◌∙◌}
use Rattle.std.specs.Prelude.{MatchOption}
use Rattle.vortex_model.specs.Path.{type_at}
use Rattle.vortex_arrays_model.specs.Layout.{array_type_of, constant, dictionary, IsSound}
use Rattle.vortex_arrays_model.specs.Column.{IsPart}
use Rattle.vortex_scalar_core.specs.Scalar.{scalar_type, scalar_raw}
use Rattle.vortex_arrays_core.specs.LayoutOf.{layout_of}
use Rattle.vortex_arrays_struct.proofs.Parts.{part_of_dictionary}
use Rattle.vortex_arrays_struct.proofs.part.+field_of.Goals as goal

pub returns-in_ok-picked-in-Dict-clause-made : goal.returns-in_ok-picked-in-Dict-clause-made
returns-in_ok-picked-in-Dict-clause-made t c =
    let codes = c.in-Dict.codes in let values = c.in-Dict.values in let flag = c.in-Dict.all_values_referenced in let field = c.in-Some.field in let here = c.args.position ∷ [] in
    let made = subst (λ o. MatchOption o (type_at (array_type_of values) here ≡ None) (λ f. IsPart values here f)) c.in-Some.is c.in_ok-field-in-Dict.ensures.made in
    let sound : IsSound (dictionary codes values flag) = subst (λ l. IsSound (layout_of l)) c.in-Dict.is c.layout.ensures.sound in
    let same : c.args.array.now ≡ dictionary codes values flag = sym c.layout.ensures.layout ∙ ap layout_of c.in-Dict.is in
    let picked : c.in_ok-picked-in-Dict.picked ≡ dictionary codes field flag = c.in_ok-picked-in-Dict.ensures ∙ ap (λ x. dictionary x field flag) c.in_ok-codes-in-Dict.ensures.cases in
    rw (same, picked) (part_of_dictionary codes values field flag here sound made)

pub returns-in_ok-repeated-in-Constant-clause-made : goal.returns-in_ok-repeated-in-Constant-clause-made
returns-in_ok-repeated-in-Constant-clause-made t c =
    let scalar = c.in-Constant.scalar in let here = c.args.position ∷ [] in
    let made = subst (λ o. MatchOption o (type_at (scalar_type scalar) here ≡ None) (λ f. (n : ℕ) → IsPart (constant (scalar_type scalar) (scalar_raw scalar) n) here (constant (scalar_type f) (scalar_raw f) n))) c.in-Some-2.is c.in_ok-field-in-Constant.ensures in
    let same : c.args.array.now ≡ constant (scalar_type scalar) (scalar_raw scalar) c.in-Constant.len = sym c.layout.ensures.layout ∙ ap layout_of c.in-Constant.is in
    rw (same, c.in_ok-repeated-in-Constant.ensures) (made c.in-Constant.len)
