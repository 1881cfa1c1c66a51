-- Masks whose rows are set anew one after another.
use Rattle.std.proofs.Common.{◌≡◌, refl, ap, ◌∙◌, ℕ, zero, suc, ◌<◌, ◌≤◌, Bool, List, [], ◌∷◌, ◌++◌, length, get_or, set, take, drop, map, arith}
use Rattle.std.specs.List.{zip}

-- a mask of which the first n rows are set anew by the items beside them
abbrev pub changed_first : {A : Type 0} → (Bool → A → Bool) → ℕ → List Bool → List A → List Bool
changed_first f n ms xs = map (λ p. f p.0 p.1) (zip (take n ms) (take n xs)) ++ drop n ms

module _ {A : Type 0} (f : Bool → A → Bool) where
  pub changed_length : (n : ℕ) (ms : List Bool) (xs : List A) → n ≤ length xs → length (changed_first f n ms xs) ≡ length ms
  changed_length zero ms xs h = refl
  changed_length (suc n) [] xs h = refl
  changed_length (suc n) (m ∷ ms) [] h = absurd (omega (arith, h))
  changed_length (suc n) (m ∷ ms) (x ∷ xs) h = ap suc (changed_length n ms xs (omega (arith, h)))

  -- one row more
  pub changed_more : (n : ℕ) (ms : List Bool) (xs : List A) (b : Bool) (d : A) → n < length ms → n < length xs →
      set (changed_first f n ms xs) n (f (get_or (changed_first f n ms xs) n b) (get_or xs n d)) ≡ changed_first f (suc n) ms xs
  changed_more n [] xs b d h k = absurd (omega (arith, h))
  changed_more n (m ∷ ms) [] b d h k = absurd (omega (arith, k))
  changed_more zero (m ∷ ms) (x ∷ xs) b d h k = refl
  changed_more (suc n) (m ∷ ms) (x ∷ xs) b d h k = ap (λ ys. f m x ∷ ys) (changed_more n ms xs b d (omega (arith, h)) (omega (arith, k)))

  -- every row of a mask that isn't longer than the list beside it
  pub changed_all : (ms : List Bool) (xs : List A) → length ms ≤ length xs → changed_first f (length ms) ms xs ≡ map (λ p. f p.0 p.1) (zip ms xs)
  changed_all [] xs h = refl
  changed_all (m ∷ ms) [] h = absurd (omega (arith, h))
  changed_all (m ∷ ms) (x ∷ xs) h = ap (λ ys. f m x ∷ ys) (changed_all ms xs (omega (arith, h)))

  -- rows beyond the list beside them have no part in it
  pub cut_beside : (ms : List Bool) (xs : List A) → map (λ p. f p.0 p.1) (zip (take (length xs) ms) xs) ≡ map (λ p. f p.0 p.1) (zip ms xs)
  cut_beside [] [] = refl
  cut_beside (m ∷ ms) [] = refl
  cut_beside [] (x ∷ xs) = refl
  cut_beside (m ∷ ms) (x ∷ xs) = ap (λ ys. f m x ∷ ys) (cut_beside ms xs)

  pub changed_whole : (ms : List Bool) (xs : List A) (n : ℕ) → n ≡ length (take (length xs) ms) → length (take (length xs) ms) ≤ length xs →
      changed_first f n (take (length xs) ms) xs ≡ map (λ p. f p.0 p.1) (zip ms xs)
  changed_whole ms xs n e h = ap (λ k. changed_first f k (take (length xs) ms) xs) e ∙ changed_all (take (length xs) ms) xs h ∙ cut_beside ms xs
