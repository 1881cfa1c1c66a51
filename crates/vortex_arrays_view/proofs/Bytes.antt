-- Lists of bytes end to end.
use Rattle.std.proofs.Common.{◌≡◌, ℕ, List, [], ◌∷◌, ◌++◌, length, slice_index_or, refl, arith}

-- a list of four begins with its four elements
pub four : (s rest : List ℕ) → length s ≡ 4 → slice_index_or s 0 0 ∷ slice_index_or s 1 0 ∷ slice_index_or s 2 0 ∷ slice_index_or s 3 0 ∷ rest ≡ s ++ rest
four [] rest e = absurd (omega arith)
four (x ∷ []) rest e = absurd (omega arith)
four (x ∷ y ∷ []) rest e = absurd (omega arith)
four (x ∷ y ∷ z ∷ []) rest e = absurd (omega arith)
four (x ∷ y ∷ z ∷ w ∷ []) rest e = refl
four (x ∷ y ∷ z ∷ w ∷ v ∷ s) rest e = absurd (omega arith)
