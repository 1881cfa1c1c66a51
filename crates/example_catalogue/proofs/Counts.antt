-- Totals of counts: those of parts add up, and no order changes them.
use Rattle.std.proofs.Common.{◌≡◌, refl, sym, ◌∙◌, ap, ℕ, zero, suc, ◌+◌, ◌≤◌, arith, pos, List, [], ◌∷◌, ◌++◌, Bool, true, false, ◌&&◌, ◌==◌, if◌then◌else◌, Some, None, option_map, count_by, sum_by}
use Rattle.std.specs.List.Sorted.{IsPermutation}
use Rattle.std.proofs.lemmas.List.Sums.{sum_by-append, sum_by-cons}
use Rattle.std.proofs.lemmas.List.Sorted.{sum_by-IsPermutation}
use Rattle.vortex_model.specs.LogicalType.{u64}
use Rattle.vortex_model.specs.Content.{Raw, raw_number}
use Rattle.vortex_model.specs.Valid.{in_range}
use Rattle.vortex_model_table.specs.Statistics.{Precision, exact, inexact, absent}
use Rattle.vortex_stats_set.specs.Merge.{merged_count}
use Rattle.vortex_stats_set.specs.Pairs.{or_nothing}
use Rattle.vortex_stats_set.specs.Said.{said_count}
use Rattle.example_catalogue.specs.Bounds.{number_of, is_missing, is_rough, total_by, total, counted}
use Rattle.std.proofs.Math.Dec.{leb, leb-zero}
use Rattle.std.proofs.lemmas.Bool.{le-leb, leb-true, ne_eqb}

as_test : (n : ℕ) → in_range u64 (pos n) ≡ leb n 18446744073709551615
as_test n = ap (λ b. b && leb n 18446744073709551615) (leb-zero n)

-- a part of what fits in a u64 fits
fits_left : (m n : ℕ) → in_range u64 (pos (m + n)) ≡ true → in_range u64 (pos m) ≡ true
fits_left m n h =
    let s : m + n ≤ 18446744073709551615 = leb-true (m + n) 18446744073709551615 (sym (as_test (m + n)) ∙ h) in
    as_test m ∙ le-leb m 18446744073709551615 (omega (arith, s))

fits_right : (m n : ℕ) → in_range u64 (pos (m + n)) ≡ true → in_range u64 (pos n) ≡ true
fits_right m n h =
    let s : m + n ≤ 18446744073709551615 = leb-true (m + n) 18446744073709551615 (sym (as_test (m + n)) ∙ h) in
    as_test n ∙ le-leb n 18446744073709551615 (omega (arith, s))

-- ---- two totals

abbrev by_fit : Bool → Bool → ℕ → Precision ℕ
by_fit fits sharp n = if fits then (if sharp then exact n else inexact n) else absent

no_more : (b : Bool) (e : Bool) (n : ℕ) → (b ≡ true → ⊥) → absent ≡ counted (by_fit b e n)
no_more true e n h = absurd (h refl)
no_more false e n h = refl

nothing_left : (p : Precision Raw) → absent ≡ or_nothing (merged_count p absent)
nothing_left (exact a) = refl
nothing_left (inexact a) = refl
nothing_left absent = refl

module _ (m n : ℕ) where
  abbrev Adds : Precision ℕ → Precision ℕ → Bool → Type 0
  Adds p q sharp = (b : Bool) → in_range u64 (pos (m + n)) ≡ b →
      or_nothing (merged_count (counted p) (counted q)) ≡ counted (by_fit b sharp (m + n))

  two_exact : Adds (exact m) (exact n) true
  two_exact true e = ap (λ b. or_nothing (option_map (λ r. exact r) (if b then Some (raw_number u64 (pos (m + n))) else None))) e
  two_exact false e = ap (λ b. or_nothing (option_map (λ r. exact r) (if b then Some (raw_number u64 (pos (m + n))) else None))) e

  exact_rough : Adds (exact m) (inexact n) false
  exact_rough true e = ap (λ b. or_nothing (option_map (λ r. inexact r) (if b then Some (raw_number u64 (pos (m + n))) else None))) e
  exact_rough false e = ap (λ b. or_nothing (option_map (λ r. inexact r) (if b then Some (raw_number u64 (pos (m + n))) else None))) e

  rough_exact : Adds (inexact m) (exact n) false
  rough_exact true e = ap (λ b. or_nothing (option_map (λ r. inexact r) (if b then Some (raw_number u64 (pos (m + n))) else None))) e
  rough_exact false e = ap (λ b. or_nothing (option_map (λ r. inexact r) (if b then Some (raw_number u64 (pos (m + n))) else None))) e

  two_rough : Adds (inexact m) (inexact n) false
  two_rough true e = ap (λ b. or_nothing (option_map (λ r. inexact r) (if b then Some (raw_number u64 (pos (m + n))) else None))) e
  two_rough false e = ap (λ b. or_nothing (option_map (λ r. inexact r) (if b then Some (raw_number u64 (pos (m + n))) else None))) e

  abbrev Sums : Precision ℕ → Precision ℕ → Bool → Type 0
  Sums p q sharp = or_nothing (merged_count (counted p) (counted q)) ≡ counted (by_fit (in_range u64 (pos (m + n))) sharp (m + n))

  fitting : (b d : Bool) (s t : Bool) → in_range u64 (pos m) ≡ s → in_range u64 (pos n) ≡ t →
      Sums (by_fit s b m) (by_fit t d n) (b && d)
  fitting b d false t e f = no_more (in_range u64 (pos (m + n))) (b && d) (m + n) (λ h. absurd (cc (e, fits_left m n h)))
  fitting b d true false e f =
      sym (nothing_left (counted (by_fit true b m)))
      ∙ no_more (in_range u64 (pos (m + n))) (b && d) (m + n) (λ h. absurd (cc (f, fits_right m n h)))
  fitting true true true true e f = two_exact (in_range u64 (pos (m + n))) refl
  fitting true false true true e f = exact_rough (in_range u64 (pos (m + n))) refl
  fitting false true true true e f = rough_exact (in_range u64 (pos (m + n))) refl
  fitting false false true true e f = two_rough (in_range u64 (pos (m + n))) refl

  pub adding : (a b c d : Bool) →
      or_nothing (merged_count (counted (total_by a b m)) (counted (total_by c d n))) ≡ counted (total_by (a && c) (b && d) (m + n))
  adding false b c d = refl
  adding true b false d = sym (nothing_left (counted (total_by true b m)))
  adding true b true d = fitting b d (in_range u64 (pos m)) (in_range u64 (pos n)) refl refl

-- ---- lists

and_true : (b : Bool) → (b && true) ≡ b
and_true true = refl
and_true false = refl

and_false : (b : Bool) → (b && false) ≡ false
and_false true = refl
and_false false = refl

nil_more : (n : ℕ) → n + 0 ≡ n
nil_more n = let u : n + 0 ≡ n = omega arith in u

none_both : (m n : ℕ) → (m + n == 0) ≡ ((m == 0) && (n == 0))
none_both m zero = ap (λ k. k == 0) (nil_more m) ∙ sym (and_true (m == 0))
none_both m (suc n) =
    ne_eqb (m + suc n) 0 (λ e. omega (arith, e))
    ∙ sym (ap (λ b. (m == 0) && b) (ne_eqb (suc n) 0 (λ e. omega (arith, e))) ∙ and_false (m == 0))

abbrev one : Bool → ℕ
one b = if b then 1 else 0

pub total_of_both : (ps qs : List (Precision ℕ)) →
    or_nothing (merged_count (counted (total ps)) (counted (total qs))) ≡ counted (total (ps ++ qs))
total_of_both ps qs =
    adding (sum_by number_of ps) (sum_by number_of qs) (count_by is_missing ps == 0) (count_by is_rough ps == 0) (count_by is_missing qs == 0) (count_by is_rough qs == 0)
    ∙ (λ i. counted (total_by (missing i) (rough i) (numbers i)))
  where
    missing : ((count_by is_missing ps == 0) && (count_by is_missing qs == 0)) ≡ (count_by is_missing (ps ++ qs) == 0)
    missing = sym (none_both (count_by is_missing ps) (count_by is_missing qs)) ∙ ap (λ n. n == 0) (sym (sum_by-append (λ p. one (is_missing p)) ps qs))

    rough : ((count_by is_rough ps == 0) && (count_by is_rough qs == 0)) ≡ (count_by is_rough (ps ++ qs) == 0)
    rough = sym (none_both (count_by is_rough ps) (count_by is_rough qs)) ∙ ap (λ n. n == 0) (sym (sum_by-append (λ p. one (is_rough p)) ps qs))

    numbers : sum_by number_of ps + sum_by number_of qs ≡ sum_by number_of (ps ++ qs)
    numbers = sym (sum_by-append number_of ps qs)

pub same_total : (ps qs : List (Precision ℕ)) → IsPermutation ps qs → total ps ≡ total qs
same_total ps qs order =
    let missing = sum_by-IsPermutation (λ p. one (is_missing p)) ps qs order in
    let rough = sum_by-IsPermutation (λ p. one (is_rough p)) ps qs order in
    let numbers = sum_by-IsPermutation number_of ps qs order in
    sym (λ i. total_by (missing i == 0) (rough i == 0) (numbers i))

-- ---- one count

pub said_again : (p : Precision ℕ) → said_count (counted p) ≡ p
said_again (exact n) = refl
said_again (inexact n) = refl
said_again absent = refl

-- the count fits in a u64, if it is known
abbrev pub Fits : Precision ℕ → Type 0
Fits (exact n) = in_range u64 (pos n) ≡ true
Fits (inexact n) = in_range u64 (pos n) ≡ true
Fits absent = Unit {0}

sum_of_one : (p : Precision ℕ) → sum_by number_of (p ∷ []) ≡ number_of p
sum_of_one p = sum_by-cons number_of p [] ∙ nil_more (number_of p)

pub total_of_one : (p : Precision ℕ) → Fits p → total (p ∷ []) ≡ p
total_of_one (exact n) h = ap (λ z. by_fit (in_range u64 (pos z)) true z) (sum_of_one (exact n)) ∙ ap (λ b. by_fit b true n) h
total_of_one (inexact n) h = ap (λ z. by_fit (in_range u64 (pos z)) false z) (sum_of_one (inexact n)) ∙ ap (λ b. by_fit b false n) h
total_of_one absent h = refl
