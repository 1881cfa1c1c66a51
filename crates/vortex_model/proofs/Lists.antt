-- Lists by position and in parts, where std's lemmas don't say it.
use Rattle.std.proofs.Common.{◌≡◌, ◌<◌, ◌≤◌, ◌+◌, ℕ, ℤ, pos, zero, suc, List, [], ◌∷◌, ◌++◌, map, zip, length, get_or, take, drop, refl, sym, ap, ◌∙◌, add-one, drop-cons, arith}
use Rattle.std.specs.List.{AllByRecursion, range_with_len}
use Rattle.std.proofs.lemmas.List.{get_or-map}

-- the item at a position goes before the rest
pub opened : {A : Type 0} (xs : List A) (i : ℕ) (x : A) → i < length xs → x ≡ get_or xs i x → drop i xs ≡ x ∷ drop (i + 1) xs
opened xs i x h e = drop-cons xs i x h ∙ ap (λ y. y ∷ drop (suc i) xs) (sym e) ∙ ap (λ (n : ℕ). x ∷ drop n xs) (sym (add-one i))

-- the item within a list, whatever is asked for beyond
pub same_item : {A : Type 0} (xs : List A) (i : ℕ) (x d : A) → i < length xs → x ≡ get_or xs i x → x ≡ get_or xs i d
same_item [] i x d l e = absurd (omega arith)
same_item (y ∷ xs) zero x d l e = e
same_item (y ∷ xs) (suc i) x d l e = same_item xs i x d (omega (arith, l)) e

pub one_item : {A : Type 0} (xs : List A) (i : ℕ) (x y : A) → i < length xs → x ≡ get_or xs i x → y ≡ get_or xs i y → x ≡ y
one_item xs i x y l e f = same_item xs i x y l e ∙ sym f

pub number_at : {A : Type 0} (f : A → ℤ) (xs : List A) (i : ℕ) (x : A) (z : ℤ) → i < length xs → x ≡ get_or xs i x → z ≡ f x → z ≡ get_or (map f xs) i (pos 0)
number_at f xs i x z l is e = e ∙ ap f is ∙ sym (get_or-map f xs i x (pos 0) l)

pub none_left : {A : Type 0} (xs : List A) → length xs ≡ 0 → xs ≡ []
none_left [] e = refl
none_left (x ∷ xs) e = absurd (cc e)

pub length_take : (n : ℕ) (xs : List ℕ) → length (take n xs) ≤ n
length_take zero xs = omega arith
length_take (suc n) [] = omega arith
length_take (suc n) (x ∷ xs) = omega (arith, length_take n xs)

pub map_twice : {A B C : Type 0} (g : B → C) (f : A → B) (xs : List A) → map g (map f xs) ≡ map (λ x. g (f x)) xs
map_twice g f [] = refl
map_twice g f (x ∷ xs) = ap (λ zs. g (f x) ∷ zs) (map_twice g f xs)

pub zip_append : {A B : Type 0} (xs ys : List A) (us vs : List B) → length xs ≡ length us → zip (xs ++ ys) (us ++ vs) ≡ zip xs us ++ zip ys vs
zip_append [] ys [] vs e = refl
zip_append [] ys (u ∷ us) vs e = absurd (omega (arith, e))
zip_append (x ∷ xs) ys [] vs e = absurd (omega (arith, e))
zip_append (x ∷ xs) ys (u ∷ us) vs e = ap (λ zs. (x, u) ∷ zs) (zip_append xs ys us vs (omega (arith, e)))

-- a range in two parts
pub range_split : (a n m k b : ℕ) → k ≡ n + m → b ≡ a + n → range_with_len a k ≡ range_with_len a n ++ range_with_len b m
range_split a zero m k b e f =
    let same : k ≡ m = omega arith in
    let here : a ≡ b = omega arith in
    λ i. range_with_len (here i) (same i)
range_split a (suc n) m zero b e f = absurd (omega arith)
range_split a (suc n) m (suc k) b e f = ap (λ l. a ∷ l) (range_split (a + 1) n m k b (omega arith) (omega arith))

-- what holds of all items, of a list in two parts
pub all_append : {A : Type 0} (P : A → Type 0) (xs ys : List A) → AllByRecursion P xs → AllByRecursion P ys → AllByRecursion P (xs ++ ys)
all_append P [] ys h g = g
all_append P (x ∷ xs) ys h g = (h.0, all_append P xs ys h.1 g)

pub front_of_all : {A : Type 0} (P : A → Type 0) (xs ys : List A) → AllByRecursion P (xs ++ ys) → AllByRecursion P xs
front_of_all P [] ys h = tt
front_of_all P (x ∷ xs) ys h = (h.0, front_of_all P xs ys h.1)

pub back_of_all : {A : Type 0} (P : A → Type 0) (xs ys : List A) → AllByRecursion P (xs ++ ys) → AllByRecursion P ys
back_of_all P [] ys h = h
back_of_all P (x ∷ xs) ys h = back_of_all P xs ys h.1
