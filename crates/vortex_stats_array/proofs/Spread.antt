-- Values as often as counted, with one more row.
use Rattle.std.proofs.Common.{◌≡◌, refl, sym, ap, ◌∙◌, subst, ℕ, zero, suc, ◌+◌, ◌-◌, ◌<◌, ◌≤◌, List, [], ◌∷◌, ◌++◌, length, get_or, set, drop, replicate, map, ◌^◌, arith}
use Rattle.std.specs.Prelude.{sum}
use Rattle.std.specs.List.{range_with_len}
use Rattle.std.specs.List.Sorted.{IsPermutation}
use Rattle.std.proofs.lemmas.List.Sums.{sum_by-cons, sum_by-drop_more, sum_by-take-drop, sum_by-set, get_or-le-sum_by}
use Rattle.std.proofs.lemmas.List.FromFn.{map-range_with_len_more}
use Rattle.std.proofs.lemmas.List.Sorted.{IsPermutation-refl, IsPermutation-sym, IsPermutation-cons, IsPermutation-to_front, IsPermutation-append_right, IsPermutation-middle, IsPermutation-trans}
use Rattle.vortex_model.specs.Content.{Content, null}
use Rattle.vortex_stats_array.specs.Counted.{spread}

-- one more null
null_more : (ns : List ℕ) (m : ℕ) (value : ℕ → Content) (j : ℕ) → IsPermutation (spread ns (suc m) value j) (null ∷ spread ns m value j)
null_more [] m value j = IsPermutation-refl (null ∷ replicate m null)
null_more (n ∷ ns) m value j =
    let front = replicate n (value j) in let rest = spread ns m value (j + 1) in
    IsPermutation-trans (front ++ spread ns (suc m) value (j + 1)) (front ++ null ∷ rest) (null ∷ (front ++ rest))
    (IsPermutation-append_right front (spread ns (suc m) value (j + 1)) (null ∷ rest) (null_more ns m value (j + 1)))
    (IsPermutation-middle front null rest)

-- one more of the value at i + j
value_more : (ns : List ℕ) (m : ℕ) (value : ℕ → Content) (i j : ℕ) → i < length ns →
    IsPermutation (spread (set ns i (suc (get_or ns i 0))) m value j) (value (j + i) ∷ spread ns m value j)
value_more [] m value i j h = absurd (omega (arith, h))
value_more (n ∷ ns) m value zero j h =
    let same : j ≡ j + 0 = omega arith in
    subst (λ k. IsPermutation (value j ∷ (replicate n (value j) ++ spread ns m value (j + 1))) (value k ∷ (replicate n (value j) ++ spread ns m value (j + 1)))) same
    (IsPermutation-refl (value j ∷ (replicate n (value j) ++ spread ns m value (j + 1))))
value_more (n ∷ ns) m value (suc i) j h =
    let front = replicate n (value j) in let rest = spread ns m value (j + 1) in
    let next = spread (set ns i (suc (get_or ns i 0))) m value (j + 1) in
    let there : (j + 1) + i ≡ j + suc i = omega arith in
    subst (λ k. IsPermutation (front ++ next) (value k ∷ (front ++ rest))) there
    (IsPermutation-trans (front ++ next) (front ++ value ((j + 1) + i) ∷ rest) (value ((j + 1) + i) ∷ (front ++ rest))
    (IsPermutation-append_right front next (value ((j + 1) + i) ∷ rest) (value_more ns m value i (j + 1) (omega (arith, h))))
    (IsPermutation-middle front (value ((j + 1) + i)) rest))

none_yet : (n : ℕ) (value : ℕ → Content) (j : ℕ) → spread (replicate n 0) 0 value j ≡ []
none_yet zero value j = refl
none_yet (suc n) value j = none_yet n value (j + 1)

pub counted_none : (n : ℕ) (value content : ℕ → Content) → IsPermutation (spread (replicate n 0) 0 value 0) (map content (range_with_len 0 0))
counted_none n value content = subst (λ cs. IsPermutation cs []) (sym (none_yet n value 0)) (IsPermutation-refl [])

-- the row at i comes after those that were counted
row_behind : (cs : List Content) (before : List Content) (content : ℕ → Content) (i : ℕ) → IsPermutation before (map content (range_with_len 0 i)) →
    IsPermutation cs (content i ∷ before) → IsPermutation cs (map content (range_with_len 0 (i + 1)))
row_behind cs before content i held more =
    let all = map content (range_with_len 0 i) in
    subst (IsPermutation cs) (sym (map-range_with_len_more content 0 i i (omega arith)))
    (IsPermutation-trans cs (content i ∷ before) (all ++ content i ∷ []) more
    (IsPermutation-trans (content i ∷ before) (content i ∷ all) (all ++ content i ∷ [])
    (IsPermutation-cons (content i) before all held) (IsPermutation-sym (all ++ content i ∷ []) (content i ∷ all) (IsPermutation-to_front all (content i)))))

pub null_counted : (ns : List ℕ) (m : ℕ) (value content : ℕ → Content) (i : ℕ) → IsPermutation (spread ns m value 0) (map content (range_with_len 0 i)) →
    null ≡ content i → IsPermutation (spread ns (m + 1) value 0) (map content (range_with_len 0 (i + 1)))
null_counted ns m value content i held e =
    let more : suc m ≡ m + 1 = omega arith in
    row_behind (spread ns (m + 1) value 0) (spread ns m value 0) content i held
    (subst (λ n. IsPermutation (spread ns n value 0) (content i ∷ spread ns m value 0)) more
    (subst (λ c. IsPermutation (spread ns (suc m) value 0) (c ∷ spread ns m value 0)) e (null_more ns m value 0)))

pub value_counted : (ns : List ℕ) (m : ℕ) (value content : ℕ → Content) (i j n : ℕ) → IsPermutation (spread ns m value 0) (map content (range_with_len 0 i)) →
    j < length ns → n ≡ get_or ns j 0 + 1 → value j ≡ content i → IsPermutation (spread (set ns j n) m value 0) (map content (range_with_len 0 (i + 1)))
value_counted ns m value content i j n held l count e =
    let more : suc (get_or ns j 0) ≡ n = omega (arith, count) in let here : 0 + j ≡ j = omega arith in
    row_behind (spread (set ns j n) m value 0) (spread ns m value 0) content i held
    (subst (λ k. IsPermutation (spread (set ns j k) m value 0) (content i ∷ spread ns m value 0)) more
    (subst (λ c. IsPermutation (spread (set ns j (suc (get_or ns j 0))) m value 0) (c ∷ spread ns m value 0)) (ap value here ∙ e) (value_more ns m value j 0 l)))

-- ---- from the last value to the first

pub none_left : (ns : List ℕ) (m : ℕ) (value : ℕ → Content) (n : ℕ) → n ≡ length ns → replicate m null ≡ spread (drop n ns) m value n
none_left ns m value n e = past ns n e n
  where
    past : (ns : List ℕ) (n : ℕ) → n ≡ length ns → (j : ℕ) → replicate m null ≡ spread (drop n ns) m value j
    past [] zero e j = refl
    past [] (suc n) e j = refl
    past (x ∷ ns) zero e j = absurd (omega (arith, e))
    past (x ∷ ns) (suc n) e j = past ns n (omega (arith, e)) j

pub value_before : (ns : List ℕ) (m : ℕ) (value : ℕ → Content) (i : ℕ) → 0 < i → i ≤ length ns →
    replicate (get_or ns (i - 1) 0) (value (i - 1)) ++ spread (drop i ns) m value i ≡ spread (drop (i - 1) ns) m value (i - 1)
value_before ns m value zero a b = absurd (omega (arith, a))
value_before ns m value (suc i) a b =
    let less : i ≡ suc i - 1 = omega arith in
    let next : suc i ≡ i + 1 = omega arith in
    (λ k. replicate (get_or ns (sym less k) 0) (value (sym less k)) ++ spread (drop (suc i) ns) m value (next k))
    ∙ first ns i i (omega (arith, b)) ∙ (λ k. spread (drop (less k) ns) m value (less k))
  where
    first : (ns : List ℕ) (i j : ℕ) → i < length ns → replicate (get_or ns i 0) (value j) ++ spread (drop (suc i) ns) m value (j + 1) ≡ spread (drop i ns) m value j
    first [] i j h = absurd (omega (arith, h))
    first (n ∷ ns) zero j h = refl
    first (n ∷ ns) (suc i) j h = first ns i j (omega (arith, h))

-- ---- the number of counted rows

pub none_counted : (n : ℕ) → 0 + sum (replicate n 0) ≡ 0
none_counted zero = refl
none_counted (suc n) = let first = sum_by-cons (λ x. x) 0 (replicate n 0) in let rest = none_counted n in omega (arith, first, rest)

pub one_counted : (ns : List ℕ) (m j n i : ℕ) → j < length ns → n ≡ get_or ns j 0 + 1 → m + sum ns ≡ i → m + sum (set ns j n) ≡ i + 1
one_counted ns m j n i l e h = let more = sum_by-set (λ x. x) ns j n 0 l in omega (arith, more, e, h)

pub count_fits : (ns : List ℕ) (m j i n : ℕ) → j < length ns → m + sum ns ≡ i → i < n → n < 2 ^ 64 → get_or ns j 0 + 1 < 2 ^ 64
count_fits ns m j i n l h less few = let most = get_or-le-sum_by (λ x. x) ns j 0 l in omega (arith, most, h, less, few)

pub sum_before : (ns : List ℕ) (m j : ℕ) → 0 < j → j ≤ length ns → (m + sum (drop j ns)) + get_or ns (j - 1) 0 ≡ m + sum (drop (j - 1) ns)
sum_before ns m j a b =
    let within : j - 1 < length ns = omega (arith, a, b) in let next : (j - 1) + 1 ≡ j = omega (arith, a) in
    let more = sum_by-drop_more (λ x. x) ns (j - 1) 0 within ∙ ap (λ k. get_or ns (j - 1) 0 + sum (drop k ns)) next in
    omega (arith, more)

pub sum_within : (ns : List ℕ) (m j : ℕ) → m + sum ns < 2 ^ 64 → m + sum (drop j ns) < 2 ^ 64
sum_within ns m j h = let parts = sum_by-take-drop (λ x. x) ns j in omega (arith, parts, h)

nothing_left : (ns : List ℕ) (n : ℕ) → n ≡ length ns → drop n ns ≡ []
nothing_left [] zero e = refl
nothing_left [] (suc n) e = refl
nothing_left (x ∷ ns) zero e = absurd (omega (arith, e))
nothing_left (x ∷ ns) (suc n) e = nothing_left ns n (omega (arith, e))

pub sum_at_end : (ns : List ℕ) (m n : ℕ) → n ≡ length ns → m ≡ m + sum (drop n ns)
sum_at_end ns m n e = let none = ap sum (nothing_left ns n e) in let added : m ≡ m + 0 = omega arith in added ∙ ap (λ k. m + k) (sym none)
