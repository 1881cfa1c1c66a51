-- One step of a loop over a list.
use Rattle.std.proofs.Common.{◌≡◌, ◌<◌, ◌+◌, ℕ, suc, List, [], ◌∷◌, ◌++◌, map, length, get_or, take, drop, Option, Some, sym, ap, ◌∙◌, add-one, drop-cons}
use Rattle.std.proofs.lemmas.Grind.{take_at_read}
use Rattle.std.proofs.lemmas.List.{map-append}
use Rattle.vortex_model.specs.LogicalType.{LogicalType}
use Rattle.vortex_dtype_path.specs.Resolve.{part_along, type_along, resolved}
use Rattle.vortex_dtype_path.specs.View.{step_of}
use Rattle.vortex_dtype_path.specs.declared.field.Field.{Field}

-- the list that is built has the view of the list that is read
pub pushed : {X Y Z : Type 0} (f : X → Z) (g : Y → Z) (built new : List X) (xs : List Y) (i : ℕ) (x : Y) (y : X) → i < length xs → x ≡ get_or xs i x → f y ≡ g x → new ≡ built ++ y ∷ [] → map f built ≡ map g (take i xs) → map f new ≡ map g (take (i + 1) xs)
pushed f g built new xs i x y h is e made whole =
    ap (map f) made ∙ map-append f built (y ∷ []) ∙ ap (λ zs. zs ++ f y ∷ []) whole ∙ ap (λ z. map g (take i xs) ++ z ∷ []) e
    ∙ sym (map-append g (take i xs) (x ∷ [])) ∙ ap (λ z. map g (take i xs ++ z ∷ [])) is ∙ sym (ap (map g) ((take_at_read xs i x h).1))

-- the type after one more step
pub walked : (k l : LogicalType) (steps : List Field) (i : ℕ) (step : Field) (whole : Option LogicalType) → i < length steps → step ≡ get_or steps i step → Some l ≡ part_along k (step_of step) → resolved k (map step_of (drop i steps)) ≡ whole → resolved l (map step_of (drop (i + 1) steps)) ≡ whole
walked k l steps i step whole h is at left =
    let rest : List Field = drop (suc i) steps in
    ap (λ (n : ℕ). resolved l (map step_of (drop n steps))) (add-one i)
    ∙ ap (λ (o : Option LogicalType). type_along o (map step_of rest)) at
    ∙ ap (λ (s : Field). resolved k (map step_of (s ∷ rest))) is
    ∙ ap (λ (ss : List Field). resolved k (map step_of ss)) (sym (drop-cons steps i step h))
    ∙ left
