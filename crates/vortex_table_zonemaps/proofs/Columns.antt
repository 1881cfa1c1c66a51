-- Values of zones with one more, and parts of them.
use Rattle.std.proofs.Common.{◌≡◌, refl, sym, ap, ◌∙◌, ℕ, zero, suc, ◌+◌, ◌≤◌, Bool, List, [], ◌∷◌, ◌++◌, length, map, take, drop, Some, arith}
use Rattle.std.proofs.Math.Seq.{take-length}
use Rattle.std.proofs.lemmas.List.{length-take, length-append}
use Rattle.vortex_model.specs.Content.{Content}
use Rattle.vortex_stats_mask.specs.Columns.{shown, shown_at}
use Rattle.vortex_table_zonemaps.specs.Known.{AreKnown, IsKept, IsPut}
use Rattle.vortex_table_zonemaps.specs.declared.known.Known.{Known}

-- a part of a front is a part of the whole
pub part_of_front : {X : Type 0} (n i m : ℕ) (xs : List X) → i + n ≤ m → take n (drop i (take m xs)) ≡ take n (drop i xs)
part_of_front zero i m xs h = refl
part_of_front (suc n) zero zero xs h = absurd (omega (arith, h))
part_of_front (suc n) zero (suc m) [] h = refl
part_of_front (suc n) zero (suc m) (x ∷ xs) h = ap (λ ys. x ∷ ys) (part_of_front n zero m xs (omega (arith, h)))
part_of_front (suc n) (suc i) zero xs h = absurd (omega (arith, h))
part_of_front (suc n) (suc i) (suc m) [] h = refl
part_of_front (suc n) (suc i) (suc m) (x ∷ xs) h = part_of_front (suc n) i m xs (omega (arith, h))

-- the front, with one more
pub front : {Y : Type 0} (ys new : List Y) (y : Y) (n m : ℕ) → n ≤ length ys → m ≡ n + 1 → new ≡ take n ys ++ y ∷ [] → take m new ≡ take n ys ++ y ∷ []
front ys new y n m h e is =
    let long = length-append (take n ys) (y ∷ []) in let taken = length-take n ys in
    let whole : m ≡ length (take n ys ++ y ∷ []) = omega (arith, e, long, taken, h) in
    (λ i. take (whole i) (is i)) ∙ take-length (take n ys ++ y ∷ [])

module _ {X : Type 0} (f : X → Content) where
  abbrev held : List X → List Bool → List Content
  held xs ks = shown (Some ks) (map f xs)

  no_values : (ks : List Bool) → held [] ks ≡ []
  no_values [] = refl
  no_values (k ∷ ks) = refl

  held_more : (xs : List X) (ks : List Bool) (x : X) (k : Bool) → length xs ≡ length ks → held (xs ++ x ∷ []) (ks ++ k ∷ []) ≡ held xs ks ++ shown_at k (f x) ∷ []
  held_more [] [] x k e = refl
  held_more [] (j ∷ ks) x k e = absurd (omega (arith, e))
  held_more (y ∷ xs) [] x k e = absurd (omega (arith, e))
  held_more (y ∷ xs) (j ∷ ks) x k e = ap (λ cs. shown_at j (f y) ∷ cs) (held_more xs ks x k (omega (arith, e)))

  held_length : (xs : List X) (ks : List Bool) → (length (held xs ks) ≤ length xs) × (length (held xs ks) ≤ length ks)
  held_length [] [] = (omega arith, omega arith)
  held_length [] (k ∷ ks) = (omega arith, omega arith)
  held_length (x ∷ xs) [] = (omega arith, omega arith)
  held_length (x ∷ xs) (k ∷ ks) = let rest = held_length xs ks in let a = rest.0 in let b = rest.1 in (omega (arith, a), omega (arith, b))

  held_take : (n : ℕ) (xs : List X) (ks : List Bool) → held (take n xs) (take n ks) ≡ take n (held xs ks)
  held_take zero xs ks = refl
  held_take (suc n) [] ks = no_values (take (suc n) ks) ∙ sym (ap (take (suc n)) (no_values ks))
  held_take (suc n) (x ∷ xs) [] = refl
  held_take (suc n) (x ∷ xs) (k ∷ ks) = ap (λ cs. shown_at k (f x) ∷ cs) (held_take n xs ks)

  held_drop : (n : ℕ) (xs : List X) (ks : List Bool) → held (drop n xs) (drop n ks) ≡ drop n (held xs ks)
  held_drop zero xs ks = refl
  held_drop (suc n) [] ks = no_values (drop (suc n) ks) ∙ sym (ap (drop (suc n)) (no_values ks))
  held_drop (suc n) (x ∷ xs) [] = refl
  held_drop (suc n) (x ∷ xs) (k ∷ ks) = held_drop n xs ks

  -- there are as many values as contents
  pub known_long : (known : Known X) (cs : List Content) (n : ℕ) → length cs ≡ n → AreKnown f known cs → (n ≤ length known.values.items) × (n ≤ length known.flags.items)
  known_long known cs n count is =
      let m = length cs in let xs = known.values.items in let ks = known.flags.items in
      let same : length (held (take m xs) (take m ks)) ≡ m = ap length is in
      let h = held_length (take m xs) (take m ks) in let a = h.0 in let b = h.1 in
      let tx = length-take m xs in let tk = length-take m ks in
      (omega (arith, same, a, tx, count), omega (arith, same, b, tk, count))

  module _ (old new : Known X) (cs : List Content) (n : ℕ) (count : length cs ≡ n) (is : AreKnown f old cs) where
    -- a value is put after the others
    pub known_put : (x : X) (k : Bool) (c : Content) → IsPut n x k old new → shown_at k (f x) ≡ c → AreKnown f new (cs ++ c ∷ [])
    known_put x k c put says =
        let xs = old.values.items in let ks = old.flags.items in
        let long = known_long old cs n count is in let lx = long.0 in let lk = long.1 in
        let more = length-append cs (c ∷ []) in let m : length (cs ++ c ∷ []) ≡ n + 1 = omega (arith, more, count) in
        let tx = length-take n xs in let tk = length-take n ks in let alike : length (take n xs) ≡ length (take n ks) = omega (arith, tx, tk, lx, lk) in
        let was : held (take n xs) (take n ks) ≡ cs = ap (λ j. held (take j xs) (take j ks)) (sym count) ∙ is in
        (λ i. held (front xs new.values.items x n (length (cs ++ c ∷ [])) lx m put.values i) (front ks new.flags.items k n (length (cs ++ c ∷ [])) lk m put.flags i))
        ∙ held_more (take n xs) (take n ks) x k alike ∙ (λ i. was i ++ says i ∷ [])

    -- what is changed after the others changes none of them
    pub known_kept : IsKept n old new → AreKnown f new cs
    known_kept kept =
        let long = known_long old cs n count is in let m = length cs in
        let same_x : take m new.values.items ≡ take m old.values.items = ap (λ j. take j new.values.items) count ∙ kept.values long.0 ∙ ap (λ j. take j old.values.items) (sym count) in
        let same_k : take m new.flags.items ≡ take m old.flags.items = ap (λ j. take j new.flags.items) count ∙ kept.flags long.1 ∙ ap (λ j. take j old.flags.items) (sym count) in
        (λ i. held (same_x i) (same_k i)) ∙ is

  pub known_part : (known : Known X) (cs : List Content) (first count : ℕ) → first + count ≤ length cs → AreKnown f known cs → (ys : List X) (js : List Bool) →
      ys ≡ take count (drop first known.values.items) → js ≡ take count (drop first known.flags.items) → shown (Some js) (map f ys) ≡ take count (drop first cs)
  known_part known cs first count within is ys js p q =
      let m = length cs in let xs = known.values.items in let ks = known.flags.items in
      (λ i. held ((p ∙ sym (part_of_front count first m xs within)) i) ((q ∙ sym (part_of_front count first m ks within)) i))
      ∙ held_take count (drop first (take m xs)) (drop first (take m ks)) ∙ ap (take count) (held_drop first (take m xs) (take m ks))
      ∙ ap (λ l. take count (drop first l)) is
