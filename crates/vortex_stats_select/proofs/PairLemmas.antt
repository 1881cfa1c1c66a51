-- Lists side by side.
use Rattle.std.proofs.Common.{◌≡◌, refl, ap, ℕ, zero, suc, List, [], ◌∷◌, length, map, replicate, arith}
use Rattle.std.specs.List.{zip}

pub paired : {A B C D : Type 0} (f : B → C → D) (g : A → B) (h : A → C) (xs : List A) → map (λ p. f p.0 p.1) (zip (map g xs) (map h xs)) ≡ map (λ x. f (g x) (h x)) xs
paired f g h [] = refl
paired f g h (x ∷ xs) = ap (λ ys. f (g x) (h x) ∷ ys) (paired f g h xs)

-- each beside one value
pub beside : {A B C : Type 0} (f : A → B → C) (xs : List A) (b : B) (n : ℕ) → length xs ≡ n → map (λ p. f p.0 p.1) (zip xs (replicate n b)) ≡ map (λ x. f x b) xs
beside f [] b n e = refl
beside f (x ∷ xs) b zero e = absurd (omega (arith, e))
beside f (x ∷ xs) b (suc n) e = ap (λ ys. f x b ∷ ys) (beside f xs b n (omega (arith, e)))

pub beside_left : {A B C : Type 0} (f : A → B → C) (a : A) (ys : List B) (n : ℕ) → length ys ≡ n → map (λ p. f p.0 p.1) (zip (replicate n a) ys) ≡ map (λ y. f a y) ys
beside_left f a [] zero e = refl
beside_left f a [] (suc n) e = refl
beside_left f a (y ∷ ys) zero e = absurd (omega (arith, e))
beside_left f a (y ∷ ys) (suc n) e = ap (λ xs. f a y ∷ xs) (beside_left f a ys n (omega (arith, e)))

pub alike : {A B C : Type 0} (f : A → B → C) (a : A) (b : B) (n : ℕ) → map (λ p. f p.0 p.1) (zip (replicate n a) (replicate n b)) ≡ replicate n (f a b)
alike f a b zero = refl
alike f a b (suc n) = ap (λ xs. f a b ∷ xs) (alike f a b n)
