-- From honest statistics of rows to each of the rows.
use Rattle.std.proofs.Common.{◌≡◌, refl, sym, ◌∙◌, ap, subst, ℕ, pos, ◌+◌, ◌<◌, ◌≤◌, List, [], ◌∷◌, length, map, Bool, true, false, not, ◌==◌, if◌then◌else◌, nat_lt, Some, ◌⊎◌, inl, inr, arith, eqb-true}
use Rattle.std.specs.List.{AllByRecursion}
use Rattle.std.proofs.lemmas.List.{length-map}
use Rattle.std.proofs.lemmas.List.Sums.{sum_by-append, count_by-le-length}
use Rattle.vortex_model.specs.LogicalType.{LogicalType}
use Rattle.vortex_model.specs.Content.{Content, null, boolean, integer, is_null}
use Rattle.vortex_model_table.specs.Expression.{Expression, compare, both, either, is_null as is_null_test, is_not_null as is_not_null_test, is_nan as is_nan_test, between, like, HasFormedLiterals, Aggregate, min, max, null_count, nan_count, all_null, all_non_null, all_nan}
use Rattle.vortex_model_table.specs.Truth.{Given, value_at, HasTruth, Satisfies}
use Rattle.vortex_model_table.specs.Statistics.{Precision, exact, inexact, absent, Statistics, non_null, null_count_of, IsNotAbove, IsHonest, IsHonestLeast, IsHonestGreatest, IsHonestCount, IsHonestValue, shown, shown_count, all_counted, none_counted, placeholder_value}
use Rattle.vortex_model_table.specs.Rewrite.{falsifier, satisfier}
use Rattle.vortex_model_table.specs.Sound.{Placeholders, of_proof, IsSoundFalsifier, IsSoundSatisfier}
use Rattle.vortex_model.specs.Valid.{IsContent}
use Rattle.vortex_model.proofs.Contents.{true_so}
use Rattle.vortex_model_table.proofs.ContentOrder.{Bounds}
use Rattle.vortex_model_laws.proofs.Texts.{value_textual}
use Rattle.vortex_model_laws.proofs.Pruning.{IsTold, AreTold, IsTestTold, falsified, satisfied}

-- ---- an item of a list

abbrev pub Among : {X : Type 0} → X → List X → Type 0
Among x [] = ⊥
Among x (y ∷ ys) = (y ≡ x) ⊎ Among x ys

pub among_map : {X Y : Type 0} (f : X → Y) (x : X) (xs : List X) → Among x xs → Among (f x) (map f xs)
among_map f x [] h = absurd h
among_map f x (y ∷ ys) (inl e) = inl (ap f e)
among_map f x (y ∷ ys) (inr h) = inr (among_map f x ys h)

pub each_among : {X : Type 0} (P : X → Type 0) (xs : List X) → ((x : X) → Among x xs → P x) → AllByRecursion P xs
each_among P [] h = tt
each_among P (x ∷ xs) h = (h x (inl refl), each_among P xs (λ y g. h y (inr g)))

pub all_among : {X : Type 0} (P : X → Type 0) (x : X) (xs : List X) → AllByRecursion P xs → Among x xs → P x
all_among P x [] h g = absurd g
all_among P x (y ∷ ys) h (inl e) = subst P e h.0
all_among P x (y ∷ ys) h (inr g) = all_among P x ys h.1 g

some_among : {X : Type 0} (x : X) (xs : List X) → Among x xs → 0 < length xs
some_among x [] h = absurd h
some_among x (y ∷ ys) h = omega arith

-- ---- a value that is not null, and null counts

kept_first : (P : Content → Type 0) (c : Content) (cs : List Content) (b : Bool) → is_null c ≡ b →
    AllByRecursion P (if not b then c ∷ non_null cs else non_null cs) → (is_null c ≡ false → P c) × AllByRecursion P (non_null cs)
kept_first P c cs true e h = (λ f. absurd (cc (e, f)), h)
kept_first P c cs false e h = (λ f. h.0, h.1)

pub value_among : (P : Content → Type 0) (v : Content) (cs : List Content) → AllByRecursion P (non_null cs) → Among v cs → is_null v ≡ false → P v
value_among P v [] h g e = absurd g
value_among P v (c ∷ cs) h (inl f) e = subst P f ((kept_first P c cs (is_null c) refl h).0 (ap is_null f ∙ e))
value_among P v (c ∷ cs) h (inr g) e = value_among P v cs (kept_first P c cs (is_null c) refl h).1 g e

abbrev one_null : Content → ℕ
one_null c = if is_null c then 1 else 0

pub nulls_first : (c : Content) (cs : List Content) → null_count_of (c ∷ cs) ≡ one_null c + null_count_of cs
nulls_first c cs = sum_by-append one_null (c ∷ []) cs ∙ (let n : ℕ = one_null c in let m : ℕ = null_count_of cs in let e : 0 + n + m ≡ n + m = omega arith in e)

one_null_zero : (c : Content) → one_null c ≡ 0 → is_null c ≡ false
one_null_zero null e = absurd (cc (e))
one_null_zero c e = refl

one_null_one : (c : Content) → one_null c ≡ 1 → is_null c ≡ true
one_null_one null e = refl
one_null_one c e = absurd (cc (e))

one_null_small : (c : Content) → one_null c ≤ 1
one_null_small null = omega arith
one_null_small c = omega arith

pub no_null_among : (v : Content) (cs : List Content) → null_count_of cs ≡ 0 → Among v cs → is_null v ≡ false
no_null_among v [] e g = absurd g
no_null_among v (c ∷ cs) e (inl f) =
    let s = sym (nulls_first c cs) ∙ e in let m : ℕ = one_null c in let n : ℕ = null_count_of cs in
    ap is_null (sym f) ∙ one_null_zero c (let z : m ≡ 0 = omega (arith, s) in z)
no_null_among v (c ∷ cs) e (inr g) =
    let s = sym (nulls_first c cs) ∙ e in let m : ℕ = one_null c in let n : ℕ = null_count_of cs in
    no_null_among v cs (let z : n ≡ 0 = omega (arith, s) in z) g

pub all_null_among : (v : Content) (cs : List Content) → null_count_of cs ≡ length cs → Among v cs → is_null v ≡ true
all_null_among v [] e g = absurd g
all_null_among v (c ∷ cs) e (inl f) =
    let s = sym (nulls_first c cs) ∙ e in let m : ℕ = one_null c in let n : ℕ = null_count_of cs in let l : ℕ = length cs in
    let small : n ≤ l = count_by-le-length is_null cs in let one : m ≤ 1 = one_null_small c in
    ap is_null (sym f) ∙ one_null_one c (let z : m ≡ 1 = omega (arith, s, small, one) in z)
all_null_among v (c ∷ cs) e (inr g) =
    let s = sym (nulls_first c cs) ∙ e in let m : ℕ = one_null c in let n : ℕ = null_count_of cs in let l : ℕ = length cs in
    let small : n ≤ l = count_by-le-length is_null cs in let one : m ≤ 1 = one_null_small c in
    all_null_among v cs (let z : n ≡ l = omega (arith, s, small, one) in z) g

-- ---- values of placeholders

low_shown : (p : Precision Content) (v : Content) (cs : List Content) → IsHonestLeast p cs → Among v cs → is_null (shown p) ≡ false → is_null v ≡ false → IsNotAbove (shown p) v
low_shown (exact l) v cs h g m n = value_among (λ c. IsNotAbove l c) v cs h.least g n
low_shown (inexact l) v cs h g m n = value_among (λ c. IsNotAbove l c) v cs h g n
low_shown absent v cs h g m n = absurd (cc (m))

high_shown : (p : Precision Content) (v : Content) (cs : List Content) → IsHonestGreatest p cs → Among v cs → is_null (shown p) ≡ false → is_null v ≡ false → IsNotAbove v (shown p)
high_shown (exact l) v cs h g m n = value_among (λ c. IsNotAbove c l) v cs h.greatest g n
high_shown (inexact l) v cs h g m n = value_among (λ c. IsNotAbove c l) v cs h g n
high_shown absent v cs h g m n = absurd (cc (m))

-- an inexact count has a value only where it is 0
shown_inexact : (n m : ℕ) → (if n == 0 then integer (pos 0) else null) ≡ integer (pos m) → (n ≡ 0) × (m ≡ 0)
shown_inexact n m e = by_test (n == 0) refl e
  where
    by_test : (b : Bool) → (n == 0) ≡ b → (if b then integer (pos 0) else null) ≡ integer (pos m) → (n ≡ 0) × (m ≡ 0)
    by_test true f e = (eqb-true n 0 f, let z : integer (pos m) ≡ integer (pos 0) = sym e in cc (z))
    by_test false f e = absurd (cc (e))

count_shown : (p : Precision ℕ) (c m : ℕ) → IsHonestCount p c → shown_count p ≡ integer (pos m) → c ≡ m
count_shown (exact n) c m h e = let f : n ≡ m = cc (e) in sym h ∙ f
count_shown (inexact n) c m h e = let z = shown_inexact n m e in let f = z.0 in let g = z.1 in let s : c ≤ n = h in omega (arith, f, g, s)
count_shown absent c m h e = absurd (cc (e))

none_shown : (p : Precision ℕ) (c : ℕ) → IsHonestCount p c → none_counted p ≡ boolean true → c ≡ 0
none_shown (exact n) c h e = sym h ∙ eqb-true n 0 (true_so (n == 0) e)
none_shown (inexact n) c h e = by_test (n == 0) refl e
  where
    by_test : (b : Bool) → (n == 0) ≡ b → (if b then boolean true else null) ≡ boolean true → c ≡ 0
    by_test true f e = let z = eqb-true n 0 f in let s : c ≤ n = h in omega (arith, z, s)
    by_test false f e = absurd (cc (e))
none_shown absent c h e = absurd (cc (e))

never_all : (b : Bool) → (if b then boolean false else null) ≡ boolean true → ⊥
never_all true e = absurd (cc (e))
never_all false e = absurd (cc (e))

all_shown : (rows : ℕ) (p : Precision ℕ) (c : ℕ) → IsHonestCount p c → all_counted rows p ≡ boolean true → c ≡ rows
all_shown rows (exact n) c h e = sym h ∙ eqb-true n rows (true_so (n == rows) e)
all_shown rows (inexact n) c h e = absurd (never_all (nat_lt n rows) e)
all_shown rows absent c h e = absurd (cc (e))

nan_shown : (p : Precision ℕ) (m : ℕ) → IsHonestValue p 0 → shown_count p ≡ integer (pos m) → m ≡ 0
nan_shown (exact n) m h e = let f : n ≡ m = cc (e) in sym f ∙ h
nan_shown (inexact n) m h e = (shown_inexact n m e).1
nan_shown absent m h e = absurd (cc (e))

all_nan_shown : (rows : ℕ) (p : Precision ℕ) → IsHonestValue p 0 → all_counted rows p ≡ boolean true → rows ≡ 0
all_nan_shown rows (exact n) h e = sym (eqb-true n rows (true_so (n == rows) e)) ∙ h
all_nan_shown rows (inexact n) h e = absurd (never_all (nat_lt n rows) e)
all_nan_shown rows absent h e = absurd (cc (e))

-- ---- each placeholder of an expression

-- each placeholder of x is null, or its value by honest statistics of x over these rows
abbrev pub AreHonestOf : LogicalType → List Content → Placeholders → Expression → Type 0
AreHonestOf k rows given x = (a : Aggregate) →
    (given x a ≡ null) ⊎ ((s : Statistics) × IsHonest s (map (value_at k x) rows) × (given x a ≡ placeholder_value a s (length rows)))

module _ (k : LogicalType) (rows : List Content) (given : Placeholders) (x : Expression) (honest : AreHonestOf k rows given x) (row : Content) (here : Among row rows) where
  among : Among (value_at k x row) (map (value_at k x) rows)
  among = among_map (value_at k x) row rows here

  low_told : is_null (given x min) ≡ false → is_null (value_at k x row) ≡ false → Bounds (given x min) (value_at k x row)
  low_told m n = elim (honest min) [
    | inl e ↦ absurd (cc (m, e))
    | inr h ↦ inr (subst (λ b. IsNotAbove b (value_at k x row)) (sym h.2)
        (low_shown (h.0).least (value_at k x row) (map (value_at k x) rows) (h.1).least among (ap is_null (sym h.2) ∙ m) n))
  ]

  high_told : is_null (given x max) ≡ false → is_null (value_at k x row) ≡ false → Bounds (value_at k x row) (given x max)
  high_told m n = elim (honest max) [
    | inl e ↦ absurd (cc (m, e))
    | inr h ↦ inr (subst (λ b. IsNotAbove (value_at k x row) b) (sym h.2)
        (high_shown (h.0).greatest (value_at k x row) (map (value_at k x) rows) (h.1).greatest among (ap is_null (sym h.2) ∙ m) n))
  ]

  none_counted_told : given x null_count ≡ integer (pos 0) → is_null (value_at k x row) ≡ false
  none_counted_told m = elim (honest null_count) [
    | inl e ↦ absurd (cc (m, e))
    | inr h ↦ no_null_among (value_at k x row) (map (value_at k x) rows) (count_shown (h.0).nulls (null_count_of (map (value_at k x) rows)) 0 (h.1).nulls (sym h.2 ∙ m)) among
  ]

  all_counted_told : given x null_count ≡ integer (pos (length rows)) → is_null (value_at k x row) ≡ true
  all_counted_told m = elim (honest null_count) [
    | inl e ↦ absurd (cc (m, e))
    | inr h ↦ all_null_among (value_at k x row) (map (value_at k x) rows)
        (count_shown (h.0).nulls (null_count_of (map (value_at k x) rows)) (length rows) (h.1).nulls (sym h.2 ∙ m) ∙ sym (length-map rows (value_at k x))) among
  ]

  none_null_told : given x all_non_null ≡ boolean true → is_null (value_at k x row) ≡ false
  none_null_told m = elim (honest all_non_null) [
    | inl e ↦ absurd (cc (m, e))
    | inr h ↦ no_null_among (value_at k x row) (map (value_at k x) rows) (none_shown (h.0).nulls (null_count_of (map (value_at k x) rows)) (h.1).nulls (sym h.2 ∙ m)) among
  ]

  all_null_told : given x all_null ≡ boolean true → is_null (value_at k x row) ≡ true
  all_null_told m = elim (honest all_null) [
    | inl e ↦ absurd (cc (m, e))
    | inr h ↦ all_null_among (value_at k x row) (map (value_at k x) rows)
        (all_shown (length rows) (h.0).nulls (null_count_of (map (value_at k x) rows)) (h.1).nulls (sym h.2 ∙ m) ∙ sym (length-map rows (value_at k x))) among
  ]

  nan_count_told : ¬ (given x nan_count ≡ integer (pos (length rows)))
  nan_count_told m = elim (honest nan_count) [
    | inl e ↦ absurd (cc (m, e))
    | inr h ↦ (let z = nan_shown (h.0).nans (length rows) (h.1).nans (sym h.2 ∙ m) in let s = some_among row rows here in absurd (omega (arith, z, s)))
  ]

  all_nan_told : ¬ (given x all_nan ≡ boolean true)
  all_nan_told m = elim (honest all_nan) [
    | inl e ↦ absurd (cc (m, e))
    | inr h ↦ (let z = all_nan_shown (length rows) (h.0).nans (h.1).nans (sym h.2 ∙ m) in let s = some_among row rows here in absurd (omega (arith, z, s)))
  ]

  pub told : IsTold k (of_proof given rows) row x
  told = record {
    there = some_among row rows here;
    between = record { from = low_told; to = high_told };
    none_counted = none_counted_told;
    all_counted = all_counted_told;
    none_null = none_null_told;
    all_null = all_null_told;
    nan_count = nan_count_told;
    all_nan = all_nan_told;
  }

-- ---- falsifiers and satisfiers, by honest placeholders

module _ (k : LogicalType) (g : Given) (row : Content) (typed : IsContent k row) (h : (x : Expression) → IsTold k g row x) where
  told_everywhere : (e : Expression) → HasFormedLiterals e → AreTold k g row e
  told_everywhere (compare op x y) f = (h x, h y)
  told_everywhere (both x y) f = (told_everywhere x f.0, told_everywhere y f.1)
  told_everywhere (either x y) f = (told_everywhere x f.0, told_everywhere y f.1)
  told_everywhere (is_null_test x) f = h x
  told_everywhere (is_not_null_test x) f = h x
  told_everywhere (is_nan_test x) f = h x
  told_everywhere (between x lo hi s t) f = (h x, h lo, h hi)
  told_everywhere (like x form n i) f = (h x, value_textual k row typed x f.0, value_textual k row typed form f.1)
  told_everywhere e f = tt

test_told : (k : LogicalType) (g : Given) (row : Content) → ((x : Expression) → IsTold k g row x) → (e : Expression) → IsTestTold k g row e
test_told k g row h (is_null_test x) = h x
test_told k g row h (is_not_null_test x) = h x
test_told k g row h (is_nan_test x) = h x
test_told k g row h e = tt

pub sound_falsifier : (k : LogicalType) (e proof : Expression) → HasTruth k e → HasFormedLiterals e → falsifier k e ≡ Some proof → IsSoundFalsifier k e proof
sound_falsifier k e proof has formed is rows given typed honest t =
    each_among (λ row. ¬ (Satisfies k e row)) rows (λ row here.
    falsified k (of_proof given rows) row e proof
    (told_everywhere k (of_proof given rows) row (all_among (IsContent k) row rows typed here) (λ x. told k rows given x (honest x) row here) e formed) is t.1)

-- for any predicate, since one without a truth is null
pub sound_satisfier_of_any : (k : LogicalType) (e proof : Expression) → satisfier k e ≡ Some proof → IsSoundSatisfier k e proof
sound_satisfier_of_any k e proof is rows given typed honest t =
    each_among (λ row. Satisfies k e row) rows (λ row here.
    satisfied k (of_proof given rows) row e proof (test_told k (of_proof given rows) row (λ x. told k rows given x (honest x) row here) e) is t.1)

pub sound_satisfier : (k : LogicalType) (e proof : Expression) → HasTruth k e → satisfier k e ≡ Some proof → IsSoundSatisfier k e proof
sound_satisfier k e proof has is = sound_satisfier_of_any k e proof is
