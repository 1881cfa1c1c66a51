-- Sums of counts and of sums.
use Rattle.std.proofs.Common.{◌≡◌, refl, sym, ◌∙◌, ap, subst, ℕ, ◌+◌, ◌≤◌, arith, ℤ, pos, negsuc, ◌+ℤ◌, Bool, true, false, if◌then◌else◌, Option, Some, None, option_map}
use Rattle.std.proofs.Math.IntN.{+ℤ_idl, +ℤ_idr}
use Rattle.vortex_model.specs.LogicalType.{IntKind, u64, i64}
use Rattle.vortex_model.specs.Content.{Raw, raw_number}
use Rattle.vortex_model.specs.Valid.{in_range, valid}
use Rattle.vortex_model_table.specs.Statistics.{Precision, exact, inexact, absent, IsHonestCount, IsHonestValue}
use Rattle.vortex_stats_bound.specs.Typed.{is_precision_of}
use Rattle.vortex_stats_expr.specs.Stats.{number_type}
use Rattle.vortex_stats_set.specs.Merge.{within, added, merged_count, merged_sum}
use Rattle.vortex_stats_set.specs.Pairs.{or_nothing}
use Rattle.vortex_stats_set.specs.Said.{said_number, said_count}

within_is : (i : IntKind) (z : ℤ) (r : Raw) → within i z ≡ Some r →
    (in_range i z ≡ true) × (r ≡ raw_number i z)
within_is i z r e = by_test (in_range i z) refl e
  where
    by_test : (b : Bool) → in_range i z ≡ b → (if b then Some
        (raw_number i z) else None) ≡ Some r → (in_range i z ≡ true) × (r ≡ raw_number i z)
    by_test true f g = let same : raw_number i z ≡ r = cc (g) in (f, sym same)
    by_test false f g = absurd (cc (g))

-- both are integers of one type, and so is their sum
abbrev IsAdded : Raw → Raw → Raw → Type 0
IsAdded a b r = (i : IntKind) × (x : ℤ) × (y : ℤ) × (a ≡ raw_number i x) × (b ≡ raw_number i y) ×
    (r ≡ raw_number i (x +ℤ y))

added_is : (a b r : Raw) → added a b ≡ Some r → IsAdded a b r
added_is (raw_number u64 x) (raw_number u64 y) r e =
    (u64, x, y, refl, refl, (within_is u64 (x +ℤ y) r e).1)
added_is (raw_number i64 x) (raw_number i64 y) r e =
    (i64, x, y, refl, refl, (within_is i64 (x +ℤ y) r e).1)
added_is a b r e = absurd (cc (e))

-- ---- sums

pub sum_told : (p q : Precision Raw) (s t : ℤ) → IsHonestValue (said_number p) s →
    IsHonestValue (said_number q) t →
    IsHonestValue (said_number (or_nothing (merged_sum p q))) (s +ℤ t)
sum_told (exact a) (exact b) s t h g = by_option (added a b) refl
  where
    by_option : (o : Option Raw) → added a b ≡ o →
        IsHonestValue (said_number (or_nothing (option_map (λ r. exact r) o))) (s +ℤ t)
    by_option None e = tt
    by_option (Some r) e =
        let k = added_is a b r e in
        let m : k.1 ≡ s = subst (λ c. IsHonestValue (said_number (exact c)) s) k.3 h in
        let n : k.2 ≡ t = subst (λ c. IsHonestValue (said_number (exact c)) t) k.4 g in
        subst (λ c. IsHonestValue (said_number (exact c)) (s +ℤ t)) (sym k.5) (λ j. m j +ℤ n j)
sum_told (exact a) (inexact b) s t h g = tt
sum_told (exact a) absent s t h g = tt
sum_told (inexact a) q s t h g = tt
sum_told absent q s t h g = tt

-- ---- counts

-- the count is a natural number, if it is known, and honest
abbrev pub IsCount : Precision Raw → ℕ → Type 0
IsCount p n = (is_precision_of number_type p ≡ true) × IsHonestCount (said_count p) n

count_is : (r : Raw) → valid number_type r ≡ true → (n : ℕ) × (r ≡ raw_number u64 (pos n))
count_is (raw_number u64 (pos n)) h = (n, refl)
count_is (raw_number u64 (negsuc n)) h = absurd (cc (h))
count_is r h = absurd (cc (h))

module _ (make : Raw → Precision Raw) (typed : (r : Raw) →
    is_precision_of number_type (make r) ≡ valid number_type r) where
  two_counts : (x y n : ℕ) → IsHonestCount (said_count (make (raw_number u64 (pos (x + y))))) n →
      IsCount (or_nothing (option_map make (added (raw_number u64 (pos x)) (raw_number u64
      (pos y))))) n
  two_counts x y n h = by_test (in_range u64 (pos (x + y))) refl
    where
      by_test : (b : Bool) → in_range u64 (pos (x + y)) ≡ b →
          IsCount (or_nothing (option_map make (if b then Some (raw_number u64 (pos
          (x + y))) else None))) n
      by_test true e = (typed (raw_number u64 (pos (x + y))) ∙ e, h)
      by_test false e = (refl, tt)

  counts : (a b : Raw) (n : ℕ) → valid number_type a ≡ true → valid number_type b ≡ true →
      ((x y : ℕ) → a ≡ raw_number u64 (pos x) → b ≡ raw_number u64 (pos y) →
      IsHonestCount (said_count (make (raw_number u64 (pos (x + y))))) n) →
      IsCount (or_nothing (option_map make (added a b))) n
  counts a b n h g f =
      let k = count_is a h in let l = count_is b g in
      subst (λ c. IsCount (or_nothing (option_map make (added c b))) n) (sym k.1)
      (subst (λ d. IsCount (or_nothing (option_map make (added (raw_number u64 (pos k.0)) d))) n)
      (sym l.1)
      (two_counts k.0 l.0 n (f k.0 l.0 k.1 l.1)))

exactly : (a : Raw) (x n : ℕ) → a ≡ raw_number u64 (pos x) →
    IsHonestCount (said_count (exact a)) n → x ≡ n
exactly a x n e h = subst (λ c. IsHonestCount (said_count (exact c)) n) e h

at_most : (a : Raw) (x n : ℕ) → a ≡ raw_number u64 (pos x) →
    IsHonestCount (said_count (inexact a)) n → n ≤ x
at_most a x n e h = subst (λ c. IsHonestCount (said_count (inexact c)) n) e h

pub count_told : (p q : Precision Raw) (m n : ℕ) → IsCount p m → IsCount q n →
    IsCount (or_nothing (merged_count p q)) (m + n)
count_told absent q m n h g = (refl, tt)
count_told (exact a) absent m n h g = (refl, tt)
count_told (inexact a) absent m n h g = (refl, tt)
count_told (exact a) (exact b) m n h g =
    counts (λ r. exact r) (λ r. refl) a b (m + n) h.0 g.0 (λ x y e f.
    let s : x ≡ m = exactly a x m e h.1 in let t : y ≡ n = exactly b y n f g.1 in λ j. s j + t j)
count_told (exact a) (inexact b) m n h g =
    counts (λ r. inexact r) (λ r. refl) a b (m + n) h.0 g.0 (λ x y e f.
    let s : x ≡ m = exactly a x m e h.1 in let t : n ≤ y = at_most b y n f g.1 in
    let u : m + n ≤ x + y = omega (arith, s, t) in u)
count_told (inexact a) (exact b) m n h g =
    counts (λ r. inexact r) (λ r. refl) a b (m + n) h.0 g.0 (λ x y e f.
    let s : m ≤ x = at_most a x m e h.1 in let t : y ≡ n = exactly b y n f g.1 in
    let u : m + n ≤ x + y = omega (arith, s, t) in u)
count_told (inexact a) (inexact b) m n h g =
    counts (λ r. inexact r) (λ r. refl) a b (m + n) h.0 g.0 (λ x y e f.
    let s : m ≤ x = at_most a x m e h.1 in let t : n ≤ y = at_most b y n f g.1 in
    let u : m + n ≤ x + y = omega (arith, s, t) in u)

-- ---- NaNs, of which there are none

abbrev pub IsNone : Precision Raw → Type 0
IsNone p = IsHonestValue (said_count p) 0

none_added : (i : IntKind) (x y : ℤ) → IsNone (exact (raw_number i x)) →
    IsNone (exact (raw_number i y)) → IsNone (exact (raw_number i (x +ℤ y)))
none_added i (pos m) (pos n) h g = let s : m ≡ 0 = h in let t : n ≡ 0 = g in let u : m + n ≡ 0 =
    omega (arith, s, t) in u
none_added i (pos m) (negsuc n) h g = let s : m ≡ 0 = h in
    subst (λ z. IsNone (exact (raw_number i z))) (sym (ap (λ c. pos c +ℤ negsuc n) s
    ∙ +ℤ_idl (negsuc n))) tt
none_added i (negsuc m) (pos n) h g = let t : n ≡ 0 = g in
    subst (λ z. IsNone (exact (raw_number i z))) (sym (ap (λ c. negsuc m +ℤ pos c) t
    ∙ +ℤ_idr (negsuc m))) tt
none_added i (negsuc m) (negsuc n) h g = tt

guess_free : (r : Raw) → IsNone (inexact r)
guess_free (raw_number i (pos n)) = tt
guess_free (raw_number i (negsuc n)) = tt
guess_free r = tt

guesses_free : (o : Option Raw) → IsNone (or_nothing (option_map (λ r. inexact r) o))
guesses_free None = tt
guesses_free (Some r) = guess_free r

pub none_told : (p q : Precision Raw) → IsNone p → IsNone q → IsNone (or_nothing (merged_count p q))
none_told absent q h g = tt
none_told (exact a) absent h g = tt
none_told (inexact a) absent h g = tt
none_told (exact a) (exact b) h g = by_option (added a b) refl
  where
    by_option : (o : Option Raw) → added a b ≡ o → IsNone (or_nothing (option_map (λ r. exact r) o))
    by_option None e = tt
    by_option (Some r) e =
        let k = added_is a b r e in
        subst (λ c. IsNone (exact c)) (sym k.5)
        (none_added k.0 k.1 k.2 (subst (λ c. IsNone (exact c)) k.3 h) (subst (λ c. IsNone
        (exact c)) k.4 g))
none_told (exact a) (inexact b) h g = guesses_free (added a b)
none_told (inexact a) (exact b) h g = guesses_free (added a b)
none_told (inexact a) (inexact b) h g = guesses_free (added a b)
