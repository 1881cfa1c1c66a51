-- How far the first n buffers reach, and where values end.
use Rattle.std.proofs.Common.{◌≡◌, ◌∙◌, sym, ap, subst, ℕ, ◌+◌, ◌-◌, ◌<◌, ◌≤◌, List, [], ◌∷◌, ◌++◌, length, take, drop, get_or, arith, length-append, inl, inr}
use Rattle.std.specs.List.{All, concat, sum}
use Rattle.std.proofs.lemmas.Bool.{cases_lt}
use Rattle.std.proofs.lemmas.List.{append-nil, take-append-drop, take-take, drop-take, take_all, take_more, take-append-le}
use Rattle.std.proofs.lemmas.List.Elements.{All-get_or}
use Rattle.std.proofs.lemmas.List.Folds.{concat-append}
use Rattle.std.proofs.lemmas.List.Sums.{sum_by_more, sum_by-take-le}
use Rattle.vortex_arrays_view.specs.Cuttings.{end_of, IsValueEnd}

-- the items from one index to another
abbrev pub part : List ℕ → ℕ → ℕ → List ℕ
part bytes start stop = take (stop - start) (drop start bytes)

-- two adjacent parts
pub parts_joined : (xs : List ℕ) (n m : ℕ) → take n xs ++ take m (drop n xs) ≡ take (n + m) xs
parts_joined xs n m =
    ap (λ (l : List ℕ). l ++ take m (drop n xs)) (sym (take-take n (n + m) xs (omega arith)))
    ∙ ap (λ (l : List ℕ). take n (take (n + m) xs) ++ l) (sym (drop-take n m xs))
    ∙ take-append-drop n (take (n + m) xs)

pub front_joined : (xs : List ℕ) (start stop : ℕ) → start ≤ stop → take start xs ++ part xs start stop ≡ take stop xs
front_joined xs start stop h =
    let e : start + (stop - start) ≡ stop = omega arith in
    parts_joined xs start (stop - start) ∙ ap (λ (n : ℕ). take n xs) e

-- more values end later
pub end_grows : (lengths : List ℕ) (i j : ℕ) → i ≤ j → end_of lengths i ≤ end_of lengths j
end_grows lengths i j h = subst (λ (l : List ℕ). sum l ≤ end_of lengths j) (take-take i j lengths h) (sum_by-take-le (λ x. x) (take j lengths) i)

pub end_more : (lengths : List ℕ) (i : ℕ) → i < length lengths → end_of lengths (i + 1) ≡ end_of lengths i + get_or lengths i 0
end_more lengths i h = sum_by_more (λ x. x) lengths i 0 h

pub end_all : (lengths : List ℕ) (i : ℕ) → length lengths ≤ i → end_of lengths i ≡ sum lengths
end_all lengths i h = ap (λ (l : List ℕ). sum l) (take_all i lengths h)

pub end_within : (lengths : List ℕ) (i : ℕ) → end_of lengths i ≤ sum lengths
end_within lengths i = sum_by-take-le (λ x. x) lengths i

-- no value ends between two neighbouring ends
pub value_end_before : (lengths : List ℕ) (place i : ℕ) → IsValueEnd lengths place → place < end_of lengths (i + 1) → place ≤ end_of lengths i
value_end_before lengths place i e h = elim (cases_lt e.count (i + 1)) [
  | inl l ↦ subst (λ (n : ℕ). n ≤ end_of lengths i) (sym e.ends) (end_grows lengths e.count i (omega arith))
  | inr g ↦ let k : end_of lengths (i + 1) ≤ end_of lengths e.count = end_grows lengths (i + 1) e.count g in absurd (omega (arith, k, e.ends, h))
]

-- the total length of the first buffers
abbrev pub reach_of : List (List ℕ) → ℕ → ℕ
reach_of buffers count = length (concat (take count buffers))

concat_push : (bs : List (List ℕ)) (b : List ℕ) → concat (bs ++ b ∷ []) ≡ concat bs ++ b
concat_push bs b = concat-append bs (b ∷ []) ∙ ap (λ (l : List ℕ). concat bs ++ l) (append-nil b)

reach_next : (bs : List (List ℕ)) (count limit : ℕ) → All (λ b. length b ≤ limit) bs → count < length bs → reach_of bs (count + 1) ≤ reach_of bs count + limit
reach_next bs count limit a l =
    let e : concat (take (count + 1) bs) ≡ concat (take count bs) ++ get_or bs count [] = ap (λ (r : List (List ℕ)). concat r) (take_more bs count [] l) ∙ concat_push (take count bs) (get_or bs count []) in
    let n : reach_of bs (count + 1) ≡ reach_of bs count + length (get_or bs count []) = ap (λ (r : List ℕ). length r) e ∙ length-append (concat (take count bs)) (get_or bs count []) in
    let w : length (get_or bs count []) ≤ limit = All-get_or (λ b. length b ≤ limit) bs count [] l a in
    omega (arith, n, w)

reach_past : (bs : List (List ℕ)) (count : ℕ) → length bs ≤ count → reach_of bs (count + 1) ≡ reach_of bs count
reach_past bs count g = ap (λ (r : List (List ℕ)). length (concat r)) (take_all (count + 1) bs (omega arith) ∙ sym (take_all count bs g))

-- one more buffer adds at most the limit
pub reach_more : (bs : List (List ℕ)) (count limit : ℕ) → All (λ b. length b ≤ limit) bs → reach_of bs (count + 1) ≤ reach_of bs count + limit
reach_more bs count limit a = elim (cases_lt count (length bs)) [
  | inl l ↦ reach_next bs count limit a l
  | inr g ↦ omega (arith, reach_past bs count g)
]

pub reach_all : (bs : List (List ℕ)) (count : ℕ) → length bs ≤ count → reach_of bs count ≡ length (concat bs)
reach_all bs count h = ap (λ (r : List (List ℕ)). length (concat r)) (take_all count bs h)

-- the ends of buffers after one more is added
pub ends_push : (lengths : List ℕ) (bs : List (List ℕ)) (b : List ℕ) → ((count : ℕ) → IsValueEnd lengths (reach_of bs count)) → IsValueEnd lengths (length (concat (bs ++ b ∷ []))) → (count : ℕ) → IsValueEnd lengths (reach_of (bs ++ b ∷ []) count)
ends_push lengths bs b h e count = elim (cases_lt (length bs) count) [
  | inl l ↦ subst (λ (r : List (List ℕ)). IsValueEnd lengths (length (concat r))) (sym (take_all count (bs ++ b ∷ []) (omega (arith, length-append bs (b ∷ []))))) e
  | inr g ↦ subst (λ (r : List (List ℕ)). IsValueEnd lengths (length (concat r))) (sym (take-append-le count bs (b ∷ []) g)) (h count)
]

pub front_push : (bytes : List ℕ) (bs : List (List ℕ)) (start stop : ℕ) → concat bs ≡ take start bytes → start ≤ stop → concat (bs ++ part bytes start stop ∷ []) ≡ take stop bytes
front_push bytes bs start stop e h = concat_push bs (part bytes start stop) ∙ ap (λ (l : List ℕ). l ++ part bytes start stop) e ∙ front_joined bytes start stop h
