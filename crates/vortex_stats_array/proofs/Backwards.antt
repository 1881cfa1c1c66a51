-- Rows from the last to the first.
use Rattle.std.proofs.Common.{◌≡◌, ap, ◌∙◌, ℕ, suc, ◌+◌, ◌-◌, ◌<◌, ◌≤◌, [], ◌∷◌, map, arith}
use Rattle.std.specs.List.{range_with_len}
use Rattle.vortex_model.specs.Content.{Content}

-- no row is left at the end
pub none_left : (content : ℕ → Content) (n : ℕ) → [] ≡ map content (range_with_len n (n - n))
none_left content n =
    let none : 0 ≡ n - n = omega arith in
    ap (λ m. map content (range_with_len n m)) none

-- one more row, before those from here on
pub row_before : (content : ℕ → Content) (i n : ℕ) → 0 < i → i ≤ n →
    content (i - 1) ∷ map content (range_with_len i (n - i)) ≡ map content (range_with_len (i - 1) (n - (i - 1)))
row_before content i n a b =
    let count : suc (n - i) ≡ n - (i - 1) = omega (arith, a, b) in
    let next : i ≡ (i - 1) + 1 = omega (arith, a) in
    (λ j. content (i - 1) ∷ map content (range_with_len (next j) (n - i)))
    ∙ ap (λ m. map content (range_with_len (i - 1) m)) count
