-- Lists of paths to leaf columns, compared one by one.
use Rattle.std.proofs.Math.Bool.{and-false, true-and, false-and}
use Rattle.std.proofs.Common.{◌≡◌, ◌≢◌, false, List, [], ◌∷◌, length, suc, refl, sym, ap}
use Rattle.vortex_model.specs.Path.{Positions}
use Rattle.vortex_table_chunk.specs.Formed.{eq_leaves}

-- they are equal only where they are as many
pub unequal_leaves : (xs ys : List Positions) → length xs ≢ length ys → false ≡ eq_leaves xs ys
unequal_leaves [] [] n = absurd (n refl)
unequal_leaves [] (y ∷ ys) n = refl
unequal_leaves (x ∷ xs) [] n = refl
unequal_leaves (x ∷ xs) (y ∷ ys) n = rw (← unequal_leaves xs ys (λ e. n (ap suc e))) (sym (and-false _))

pub ruleset alike = (unequal_leaves, true-and, false-and)
