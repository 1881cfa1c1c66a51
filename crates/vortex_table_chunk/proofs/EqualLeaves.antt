-- Equal leaves.
use Rattle.std.proofs.Common.{◌≡◌, refl, sym, ◌∙◌, ap, List, [], ◌∷◌, true}
use Rattle.std.specs.Cmp.{first_so, second_so}
use Rattle.std.proofs.lemmas.Bool.{and_from}
use Rattle.vortex_model.specs.Path.{Positions, eq_positions}
use Rattle.vortex_table_schema.proofs.Places.{positions_so, positions_itself}
use Rattle.vortex_table_chunk.specs.Formed.{eq_leaves}

pub leaves_so : (xs ys : List Positions) → eq_leaves xs ys ≡ true → xs ≡ ys
leaves_so [] [] h = refl
leaves_so (is ∷ xs) (js ∷ ys) h = λ t. positions_so is js (first_so (eq_positions is js) (eq_leaves xs ys) h) t ∷ leaves_so xs ys (second_so (eq_positions is js) (eq_leaves xs ys) h) t
leaves_so xs ys h = absurd (cc (h))

leaves_itself : (xs : List Positions) → eq_leaves xs xs ≡ true
leaves_itself [] = refl
leaves_itself (is ∷ xs) = and_from (eq_positions is is) (eq_leaves xs xs) (positions_itself is) (leaves_itself xs)

pub leaves_same : (xs ys : List Positions) → xs ≡ ys → eq_leaves xs ys ≡ true
leaves_same xs ys e = ap (eq_leaves xs) (sym e) ∙ leaves_itself xs
