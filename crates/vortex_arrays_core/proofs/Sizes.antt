-- The size of the largest of several arrays.
use Rattle.std.proofs.Common.{◌≤◌, ◌+◌, ◌*◌, ℕ, List, [], ◌∷◌, arith}
use denote.Param.Weighed.{most}

pub most_fourfold : {X : Type 0} (size : X → ℕ) (xs : List X) → most (λ x. 4 * size x + 0) xs ≤ 4 * most size xs
most_fourfold size [] = omega arith
most_fourfold size (x ∷ xs) = omega (arith, most_fourfold size xs)
