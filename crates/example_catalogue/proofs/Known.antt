-- The statistics of a list after one is put into it.
use Rattle.std.proofs.Common.{◌≡◌, ℕ, ◌==◌, ◌++◌, List, [], ◌∷◌, Some, None, Option, Bool, true, false, not, cond, if◌then◌else◌, map, refl, sym, ap, ◌∙◌, ◌||◌, inl, inr}
use Rattle.std.proofs.lemmas.Bool.{cases_eq, eq-eqb, ne_eqb}
use Rattle.vortex_model.specs.Content.{Raw}
use Rattle.vortex_model_table.specs.Statistics.{Precision}
use Rattle.vortex_stats_expr.specs.declared.stat.Stat.{Stat}
use Rattle.vortex_stats_expr.specs.declared.stat.Stat.TheVariants as stat
use Rattle.vortex_stats_expr.specs.Stats.{number_of_stat}
use Rattle.vortex_stats_set.specs.Sets.{is_of, has_stat, with_value, set_in, without, value_in}
use Rattle.vortex_stats_set.specs.Pairs.{Pairs, known, put, or_nothing}

never : true ≡ false → ⊥
never e = cc (e)

pub same_number : (m n : ℕ) → (m == n) ≡ true → m ≡ n
same_number m n h = elim (cases_eq m n) [
  | inl e ↦ e
  | inr d ↦ absurd (never (sym h
      ∙ ne_eqb m n d))
]

-- ---- a statistic has its number alone

stat_at : ℕ → Stat
stat_at n = if n == 0 then stat.IsConstant else if n == 1 then stat.IsSorted else if n == 2 then
    stat.IsStrictSorted
    else if n == 3 then stat.Max else if n == 4 then stat.Min else if n == 5 then stat.Sum else if
    n == 6 then stat.NullCount
    else if n == 7 then stat.UncompressedSizeInBytes else stat.NaNCount

its_stat : (s : Stat) → stat_at (number_of_stat s) ≡ s
unfolding stat_at
its_stat stat.IsConstant = refl
its_stat stat.IsSorted = refl
its_stat stat.IsStrictSorted = refl
its_stat stat.Max = refl
its_stat stat.Min = refl
its_stat stat.Sum = refl
its_stat stat.NullCount = refl
its_stat stat.UncompressedSizeInBytes = refl
its_stat stat.NaNCount = refl

pub same_stat : (s t : Stat) → (number_of_stat s == number_of_stat t) ≡ true → s ≡ t
same_stat s t h = sym (its_stat s) ∙ ap stat_at (same_number (number_of_stat s)
    (number_of_stat t) h) ∙ its_stat t

-- ---- values

value_behind : {A : Type 0} (es : List (Stat × A)) (s : Stat) (a : A) → has_stat es s ≡ false →
    value_in (es ++ (s, a) ∷ []) s ≡ Some a
value_behind [] s a h = ap (λ b. if b then Some a else None) (eq-eqb (number_of_stat s)
    (number_of_stat s) refl)
value_behind {A} (e ∷ es) s a h = by_test (is_of s e) h (value_behind es s a)
  where
    by_test : (b : Bool) → (b || has_stat es s) ≡ false → (has_stat es s ≡ false →
        value_in (es ++ (s, a) ∷ []) s ≡ Some a) →
        (if b then Some e.1 else value_in (es ++ (s, a) ∷ []) s) ≡ Some a
    by_test true g k = absurd (never g)
    by_test false g k = k g

other_behind : {A : Type 0} (es : List (Stat × A)) (s t : Stat) (a : A) →
    (number_of_stat s == number_of_stat t) ≡ false → value_in (es ++ (s, a) ∷ []) t ≡ value_in es t
other_behind [] s t a h = ap (λ b. if b then Some a else None) h
other_behind (e ∷ es) s t a h = ap (λ o. if is_of t e then Some e.1 else o)
    (other_behind es s t a h)

value_placed : {A : Type 0} (es : List (Stat × A)) (s : Stat) (a : A) → has_stat es s ≡ true →
    value_in (map (with_value s a) es) s ≡ Some a
value_placed [] s a h = absurd (never (sym h))
value_placed (e ∷ es) s a h = by_test (is_of s e) h (value_placed es s a)
  where
    by_test : (b : Bool) → (b || has_stat es s) ≡ true → (has_stat es s ≡ true →
        value_in (map (with_value s a) es) s ≡ Some a) →
        (if b then Some (if b then a else e.1) else value_in (map (with_value s a) es) s) ≡ Some a
    by_test true g k = refl
    by_test false g k = k g

other_placed : {A : Type 0} (es : List (Stat × A)) (s t : Stat) (a : A) →
    (number_of_stat s == number_of_stat t) ≡ false →
    value_in (map (with_value s a) es) t ≡ value_in es t
other_placed [] s t a h = refl
other_placed {A} (e ∷ es) s t a h = by_test (is_of t e) refl (other_placed es s t a h)
  where
    apart : is_of t e ≡ true → is_of s e ≡ false
    apart g =
        let at : number_of_stat e.0 ≡ number_of_stat t =
        same_number (number_of_stat e.0) (number_of_stat t) g in
        elim (cases_eq (number_of_stat e.0) (number_of_stat s)) [
          | inl f ↦ absurd (never (sym (eq-eqb (number_of_stat s) (number_of_stat t) (sym f
              ∙ at)) ∙ h))
          | inr d ↦ ne_eqb (number_of_stat e.0) (number_of_stat s) d
        ]

    by_test : (b : Bool) → is_of t e ≡ b → value_in (map (with_value s a) es) t ≡ value_in es t →
        (if b then Some (if is_of s e then a else e.1) else value_in (map
        (with_value s a) es) t) ≡ (if b then Some e.1 else value_in es t)
    by_test true g k = ap (λ c. Some (if c then a else e.1)) (apart g)
    by_test false g k = k

-- ---- precisions

known_set : (xs : Pairs) (s : Stat) (p : Precision Raw) → known (set_in xs s p) s ≡ p
known_set xs s p = ap or_nothing (by_test (has_stat xs s) refl)
  where
    by_test : (b : Bool) → has_stat xs s ≡ b → value_in (if b then map
        (with_value s p) xs else xs ++ (s, p) ∷ []) s ≡ Some p
    by_test true h = value_placed xs s p h
    by_test false h = value_behind xs s p h

other_set : (xs : Pairs) (s t : Stat) (p : Precision Raw) →
    (number_of_stat s == number_of_stat t) ≡ false → known (set_in xs s p) t ≡ known xs t
other_set xs s t p h = ap or_nothing (by_test (has_stat xs s))
  where
    by_test : (b : Bool) → value_in (if b then map (with_value s p) xs else xs ++
        (s, p) ∷ []) t ≡ value_in xs t
    by_test true = other_placed xs s t p h
    by_test false = other_behind xs s t p h

cleared : (xs : Pairs) (s : Stat) → value_in (without xs s) s ≡ None
cleared [] s = refl
cleared (e ∷ es) s = by_test (is_of s e) refl (cleared es s)
  where
    by_test : (b : Bool) → is_of s e ≡ b → value_in (without es s) s ≡ None →
        value_in (cond (not b) (e ∷ without es s) (without es s)) s ≡ None
    by_test true h k = k
    by_test false h k = ap (λ b. if b then Some e.1 else value_in (without es s) s) h ∙ k

other_cleared : (xs : Pairs) (s t : Stat) → (number_of_stat s == number_of_stat t) ≡ false →
    value_in (without xs s) t ≡ value_in xs t
other_cleared [] s t h = refl
other_cleared (e ∷ es) s t h = by_test (is_of s e) refl (other_cleared es s t h)
  where
    by_test : (b : Bool) → is_of s e ≡ b → value_in (without es s) t ≡ value_in es t →
        value_in (cond (not b) (e ∷ without es s) (without es s)) t ≡ value_in (e ∷ es) t
    by_test true g k =
        k
        ∙ sym (ap (λ n. if n == number_of_stat t then Some e.1 else value_in es t) (same_number
        (number_of_stat e.0) (number_of_stat s) g)
        ∙ ap (λ b. if b then Some e.1 else value_in es t) h)
    by_test false g k = ap (λ o. if is_of t e then Some e.1 else o) k

pub known_put : (xs : Pairs) (s : Stat) (o : Option (Precision Raw)) →
    known (put xs s o) s ≡ or_nothing o
known_put xs s None = ap or_nothing (cleared xs s)
known_put xs s (Some p) = known_set xs s p

pub known_other : (xs : Pairs) (s t : Stat) (o : Option (Precision Raw)) →
    (number_of_stat s == number_of_stat t) ≡ false → known (put xs s o) t ≡ known xs t
known_other xs s t None h = ap or_nothing (other_cleared xs s t h)
known_other xs s t (Some p) h = other_set xs s t p h
