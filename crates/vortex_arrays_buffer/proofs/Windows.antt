-- A part of a part of a list.
use Rattle.std.proofs.Common.{◌≡◌, ℕ, ◌+◌, ◌-◌, ◌≤◌, List, take, drop, length, sym, ap, ◌∙◌, arith}
use Rattle.std.proofs.lemmas.List.{take-take, drop-drop, drop-take, length-take}

-- `ys` is the part of `xs` that has `n` items from `at` on
pub part_of_part : {X : Type 0} (xs ys : List X) (at n i j : ℕ) → take n (drop at xs) ≡ ys → at + n ≤ length xs → i ≤ j → j ≤ length ys → take (j - i) (drop (at + i) xs) ≡ take (j - i) (drop i ys)
part_of_part xs ys at n i j is fits ij jn =
    let jm : j ≤ n = omega (arith, length-take n (drop at xs), ap length is) in
    let whole : i + (n - i) ≡ n = omega arith in
    let short : j - i ≤ n - i = omega arith in
    let inner : drop i (take n (drop at xs)) ≡ take (n - i) (drop i (drop at xs)) = ap (λ m. drop i (take m (drop at xs))) (sym whole) ∙ drop-take i (n - i) (drop at xs) in
    sym (ap (λ l. take (j - i) (drop i l)) (sym is) ∙ ap (take (j - i)) inner ∙ take-take (j - i) (n - i) (drop i (drop at xs)) short ∙ ap (take (j - i)) (drop-drop i at xs))
