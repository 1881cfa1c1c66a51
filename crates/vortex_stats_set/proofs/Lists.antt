-- Lists of statistics after setting and removing, and reading from them.
use Rattle.std.proofs.Common.{◌≡◌, ℕ, zero, suc, ◌+◌, ◌<◌, ◌==◌, ◌&&◌, ◌||◌, ◌++◌, inl, inr, List, [], ◌∷◌, Some, None, Bool, true, false, not, cond, if◌then◌else◌, IsTrue, length, map, filter, get_or, set, refl, sym, ap, ◌∙◌, subst, arith, true≢false}
use Rattle.std.specs.List.{position, position_from, list_any}
use Rattle.std.specs.List.Retain.{RetainsInTurn}
use Rattle.std.proofs.lemmas.Bool.{cases_eq, eq-eqb, ne_eqb, cases_Bool, not-true, eqb-true}
use Rattle.std.proofs.lemmas.List.Folds.{list_any-append, list_any_at}
use Rattle.std.proofs.lemmas.List.Quantifiers.{position-Some}
use Rattle.std.proofs.lemmas.Iterator.Adapters.{position_from-zero}
use Rattle.std.specs.Cmp.{first_so, second_so}
use Rattle.std.proofs.Math.Bool.{or-false}
use Rattle.vortex_model.proofs.Booleans.{or_false_left, or_false_right}
use Rattle.vortex_stats_expr.specs.declared.stat.Stat.{Stat}
use Rattle.vortex_stats_expr.specs.Stats.{number_of_stat}
use Rattle.vortex_stats_set.specs.Sets.{is_of, has_stat, is_set, with_value, set_in, set_in_turn, value_in, HasNoPlace}

-- ---- booleans

said : (b : Bool) → IsTrue b → b ≡ true
said b t = t

so : (b : Bool) → b ≡ true → IsTrue b
so b e = e

eq_sym : (m n : ℕ) → (m == n) ≡ (n == m)
eq_sym m n = elim (cases_eq m n) [ inl e ↦ eq-eqb m n e ∙ sym (eq-eqb n m (sym e)) | inr d ↦ ne_eqb m n d ∙ sym (ne_eqb n m (λ q. d (sym q))) ]

-- ---- replacing a value

kept : {A : Type 0} (s : Stat) (a : A) (es : List (Stat × A)) → has_stat es s ≡ false → map (with_value s a) es ≡ es
kept s a [] h = refl
kept s a (e ∷ es) h =
    ap (λ b. (e.0, if b then a else e.1) ∷ map (with_value s a) es) (or_false_left (is_of s e) (has_stat es s) h)
    ∙ ap (λ rest. e ∷ rest) (kept s a es (or_false_right (is_of s e) (has_stat es s) h))

same_stats : {A : Type 0} (s : Stat) (a : A) (es : List (Stat × A)) (t : Stat) → has_stat (map (with_value s a) es) t ≡ has_stat es t
same_stats s a [] t = refl
same_stats s a (e ∷ es) t = ap (λ b. is_of t e || b) (same_stats s a es t)

same_set : {A : Type 0} (s : Stat) (a : A) (es : List (Stat × A)) → is_set (map (with_value s a) es) ≡ is_set es
same_set s a [] = refl
same_set s a (e ∷ es) =
    ap (λ b. not b && is_set (map (with_value s a) es)) (same_stats s a es e.0)
    ∙ ap (λ b. not (has_stat es e.0) && b) (same_set s a es)

-- a pair has the number of its statistic
other_name : {A : Type 0} (es : List (Stat × A)) (s t : Stat) → number_of_stat s ≡ number_of_stat t → has_stat es s ≡ has_stat es t
other_name [] s t e = refl
other_name (p ∷ es) s t e = ap (λ n. (number_of_stat p.0 == n) || has_stat es s) e ∙ ap (λ b. (number_of_stat p.0 == number_of_stat t) || b) (other_name es s t e)

put_in_place : {A : Type 0} (xs : List (Stat × A)) (i : ℕ) (s : Stat) (a : A) (d : Stat × A) → is_set xs ≡ true → i < length xs → is_of s (get_or xs i d) ≡ true → set xs i ((get_or xs i d).0, a) ≡ map (with_value s a) xs
put_in_place [] i s a d u l h = absurd (omega arith)
put_in_place (e ∷ es) zero s a d u l h =
    let none : has_stat es s ≡ false = other_name es s e.0 (sym (eqb-true (number_of_stat e.0) (number_of_stat s) h)) ∙ not-true (has_stat es e.0) (first_so (not (has_stat es e.0)) (is_set es) u) in
    sym (ap (λ b. (e.0, if b then a else e.1) ∷ map (with_value s a) es) h ∙ ap (λ rest. (e.0, a) ∷ rest) (kept s a es none))
put_in_place (e ∷ es) (suc i) s a d u l h =
    let within : i < length es = omega arith in
    let none : has_stat es e.0 ≡ false = not-true (has_stat es e.0) (first_so (not (has_stat es e.0)) (is_set es) u) in
    let other : is_of s e ≡ false = elim (cases_Bool (is_of s e)) [
      | inl here ↦ absurd (true≢false (sym (list_any_at (is_of e.0) es i d within (ap (λ n. number_of_stat (get_or es i d).0 == n) (eqb-true (number_of_stat e.0) (number_of_stat s) here) ∙ h)) ∙ none))
      | inr apart ↦ apart
    ] in
    ap (λ rest. e ∷ rest) (put_in_place es i s a d (second_so (not (has_stat es e.0)) (is_set es) u) within h)
    ∙ sym (ap (λ b. (e.0, if b then a else e.1) ∷ map (with_value s a) es) other)

pub placed : {A : Type 0} (xs : List (Stat × A)) (i : ℕ) (s : Stat) (a : A) (d : Stat × A) → IsTrue (is_set xs) → position (is_of s) xs ≡ Some i → set xs i ((get_or xs i d).0, a) ≡ set_in xs s a
placed xs i s a d u at =
    let found : (i < length xs) × (is_of s (get_or xs i d) ≡ true) × ((k : ℕ) → k < i → is_of s (get_or xs k d) ≡ false) = position-Some (is_of s) xs i d at in
    put_in_place xs i s a d (said (is_set xs) u) found.0 found.1
    ∙ sym (ap (λ b. if b then map (with_value s a) xs else xs ++ (s, a) ∷ []) (list_any_at (is_of s) xs i d found.0 found.1))

-- ---- one at the end

more_stats : {A : Type 0} (es : List (Stat × A)) (s : Stat) (a : A) (t : Stat) → has_stat (es ++ (s, a) ∷ []) t ≡ (has_stat es t || (number_of_stat s == number_of_stat t))
more_stats es s a t = list_any-append (is_of t) es ((s, a) ∷ []) ∙ ap (λ b. has_stat es t || b) (or-false (number_of_stat s == number_of_stat t))

push_keeps : {A : Type 0} (xs : List (Stat × A)) (s : Stat) (a : A) → has_stat xs s ≡ false → is_set xs ≡ true → is_set (xs ++ (s, a) ∷ []) ≡ true
push_keeps [] s a h u = refl
push_keeps (e ∷ es) s a h u =
    let other : (number_of_stat s == number_of_stat e.0) ≡ false = eq_sym (number_of_stat s) (number_of_stat e.0) ∙ or_false_left (is_of s e) (has_stat es s) h in
    let head : has_stat (es ++ (s, a) ∷ []) e.0 ≡ has_stat es e.0 = more_stats es s a e.0 ∙ ap (λ b. has_stat es e.0 || b) other ∙ or-false (has_stat es e.0) in
    let rest : is_set es ≡ true = second_so (not (has_stat es e.0)) (is_set es) u in
    ap (λ b. not b && is_set (es ++ (s, a) ∷ [])) head
    ∙ ap (λ b. not (has_stat es e.0) && b) (push_keeps es s a (or_false_right (is_of s e) (has_stat es s) h) rest ∙ sym rest)
    ∙ u

set_keeps_by : {A : Type 0} (xs : List (Stat × A)) (s : Stat) (a : A) (b : Bool) → has_stat xs s ≡ b → is_set xs ≡ true → is_set (if b then map (with_value s a) xs else xs ++ (s, a) ∷ []) ≡ true
set_keeps_by xs s a true h u = same_set s a xs ∙ u
set_keeps_by xs s a false h u = push_keeps xs s a h u

pub set_keeps : {A : Type 0} (xs : List (Stat × A)) (s : Stat) (a : A) → IsTrue (is_set xs) → IsTrue (is_set (set_in xs s a))
set_keeps xs s a u = so (is_set (set_in xs s a)) (set_keeps_by xs s a (has_stat xs s) refl (said (is_set xs) u))

no_place : {X : Type 0} (p : X → Bool) (xs : List X) (i : ℕ) → position_from p i xs ≡ None → list_any p xs ≡ false
no_place p [] i h = refl
no_place {X} p (x ∷ xs) i h =
    let at : (b : Bool) → (if b then Some i else position_from p (i + 1) xs) ≡ None → (b || list_any p xs) ≡ false = λ b. elim b as (λ v. (if v then Some i else position_from p (i + 1) xs) ≡ None → (v || list_any p xs) ≡ false) [
      | true ↦ λ q. absurd (cc (q))
      | false ↦ λ q. no_place p xs (i + 1) q
    ] in
    at (p x) h

pub pushed : {A : Type 0} (xs : List (Stat × A)) (s : Stat) (a : A) → position (is_of s) xs ≡ None → xs ++ (s, a) ∷ [] ≡ set_in xs s a
pushed xs s a h = sym (ap (λ b. if b then map (with_value s a) xs else xs ++ (s, a) ∷ []) (no_place (is_of s) xs 0 (sym (position_from-zero (is_of s) xs) ∙ h)))

pub placed_keeps : {A : Type 0} (xs : List (Stat × A)) (i : ℕ) (s : Stat) (a : A) (d : Stat × A) → IsTrue (is_set xs) → position (is_of s) xs ≡ Some i → d ≡ get_or xs i d → IsTrue (is_set (set xs i (d.0, a)))
placed_keeps xs i s a d u at is =
    let same : set xs i (d.0, a) ≡ set_in xs s a = ap (λ p. set xs i (p.0, a)) is ∙ placed xs i s a d u at in
    so (is_set (set xs i (d.0, a))) (ap is_set same ∙ said (is_set (set_in xs s a)) (set_keeps xs s a u))

pub not_there : {A : Type 0} (xs : List (Stat × A)) (s : Stat) → position (is_of s) xs ≡ None → has_stat xs s ≡ false
not_there xs s at = no_place (is_of s) xs 0 (sym (position_from-zero (is_of s) xs) ∙ at)

pub place_within : {A : Type 0} (xs : List (Stat × A)) (i : ℕ) (s : Stat) → position (is_of s) xs ≡ Some i → i < length xs
place_within [] i s at = absurd (cc (at))
place_within (e ∷ es) i s at = (position-Some (is_of s) (e ∷ es) i e at).0

pub nowhere : {A : Type 0} (xs : List (Stat × A)) (s : Stat) → position (is_of s) xs ≡ None → has_stat xs s ≡ true → ⊥
nowhere xs s at h = true≢false (sym h ∙ no_place (is_of s) xs 0 (sym (position_from-zero (is_of s) xs) ∙ at))

-- ---- fewer pairs

-- A closure that changes neither itself nor the items keeps those that pass its test.
module _ {X F : Type 0} (R : F → X → Bool → F → X → Type 0) (p : X → Bool) (f : F) (h : (x : X) (b : Bool) (g : F) (y : X) → R f x b g y → (b ≡ p x) × (g ≡ f) × (y ≡ x)) where
  retained_from : (g : F) (xs ys : List X) → g ≡ f → RetainsInTurn R g xs ys → ys ≡ filter p xs
  retained_from g [] ys e t = t
  retained_from g (x ∷ xs) ys e t =
      let one = h x t.0 t.1 t.2 (subst (λ (q : F). R q x t.0 t.1 t.2) e t.3) in
      let rest : t.4 ≡ filter p xs = retained_from t.1 xs t.4 one.1 t.5 in
      t.6 ∙ (λ i. cond (one.0 i) (one.2 i ∷ rest i) (rest i))

  pub retained : (xs ys : List X) → RetainsInTurn R f xs ys → ys ≡ filter p xs
  retained xs ys t = retained_from f xs ys refl t

fewer : {A : Type 0} (p : Stat × A → Bool) (es : List (Stat × A)) (t : Stat) → has_stat es t ≡ false → has_stat (filter p es) t ≡ false
fewer p [] t h = refl
fewer {A} p (e ∷ es) t h =
    let rest : has_stat (filter p es) t ≡ false = fewer p es t (or_false_right (is_of t e) (has_stat es t) h) in
    elim (p e) as (λ b. has_stat (cond b (e ∷ filter p es) (filter p es)) t ≡ false) [
      | true ↦ ap (λ x. x || has_stat (filter p es) t) (or_false_left (is_of t e) (has_stat es t) h) ∙ rest
      | false ↦ rest
    ]

filter_keeps : {A : Type 0} (p : Stat × A → Bool) (xs : List (Stat × A)) → is_set xs ≡ true → is_set (filter p xs) ≡ true
filter_keeps p [] u = refl
filter_keeps {A} p (e ∷ es) u =
    let rest : is_set (filter p es) ≡ true = filter_keeps p es (second_so (not (has_stat es e.0)) (is_set es) u) in
    let none : has_stat es e.0 ≡ false = not-true (has_stat es e.0) (first_so (not (has_stat es e.0)) (is_set es) u) in
    elim (p e) as (λ b. is_set (cond b (e ∷ filter p es) (filter p es)) ≡ true) [
      | true ↦ ap (λ x. not x && is_set (filter p es)) (fewer p es e.0 none) ∙ rest
      | false ↦ rest
    ]

pub only_keeps : {A : Type 0} (p : Stat × A → Bool) (xs : List (Stat × A)) → IsTrue (is_set xs) → IsTrue (is_set (filter p xs))
only_keeps p xs u = so (is_set (filter p xs)) (filter_keeps p xs (said (is_set xs) u))

pub kept_is_set : {A : Type 0} (p : Stat × A → Bool) (xs ys : List (Stat × A)) → ys ≡ filter p xs → IsTrue (is_set xs) → IsTrue (is_set ys)
kept_is_set p xs ys are u = so (is_set ys) (ap is_set are ∙ said (is_set (filter p xs)) (only_keeps p xs u))

-- ---- looking up

value_at : {A : Type 0} (xs : List (Stat × A)) (i : ℕ) (s : Stat) (d : Stat × A) → i < length xs → is_of s (get_or xs i d) ≡ true → ((k : ℕ) → k < i → is_of s (get_or xs k d) ≡ false) → value_in xs s ≡ Some (get_or xs i d).1
value_at [] i s d l h before = absurd (omega arith)
value_at (e ∷ es) zero s d l h before = ap (λ b. if b then Some e.1 else value_in es s) h
value_at (e ∷ es) (suc i) s d l h before =
    ap (λ b. if b then Some e.1 else value_in es s) (before zero (omega arith))
    ∙ value_at es i s d (omega arith) h (λ k m. before (suc k) (omega arith))

pub found_value : {A : Type 0} (xs : List (Stat × A)) (i : ℕ) (s : Stat) (d : Stat × A) → position (is_of s) xs ≡ Some i → value_in xs s ≡ Some (get_or xs i d).1
found_value xs i s d at =
    let found : (i < length xs) × (is_of s (get_or xs i d) ≡ true) × ((k : ℕ) → k < i → is_of s (get_or xs k d) ≡ false) = position-Some (is_of s) xs i d at in
    value_at xs i s d found.0 found.1 found.2

absent_value : {A : Type 0} (xs : List (Stat × A)) (s : Stat) → has_stat xs s ≡ false → value_in xs s ≡ None
absent_value [] s h = refl
absent_value (e ∷ es) s h = ap (λ b. if b then Some e.1 else value_in es s) (or_false_left (is_of s e) (has_stat es s) h) ∙ absent_value es s (or_false_right (is_of s e) (has_stat es s) h)

pub no_value : {A : Type 0} (xs : List (Stat × A)) (s : Stat) → position (is_of s) xs ≡ None → value_in xs s ≡ None
no_value xs s h = absent_value xs s (no_place (is_of s) xs 0 (sym (position_from-zero (is_of s) xs) ∙ h))

pub ruleset sets = (placed, placed_keeps, place_within, pushed, not_there, set_keeps, only_keeps, found_value, no_value)

-- one more of those that are set in order
pub set_in_turn-push : {A : Type 0} (xs ys : List (Stat × A)) (e : Stat × A) → set_in_turn xs (ys ++ e ∷ []) ≡ set_in (set_in_turn xs ys) e.0 e.1
set_in_turn-push xs [] e = refl
set_in_turn-push xs (y ∷ ys) e = set_in_turn-push (set_in xs y.0 y.1) ys e

pub ruleset in_turn = (set_in_turn-push)

-- the set with these set in order has no room for it
pub full_by : {A : Type 0} (xs ys : List (Stat × A)) (s : Stat) → ys ≡ xs → HasNoPlace ys s → HasNoPlace xs s
full_by xs ys s is h = subst (λ zs. HasNoPlace zs s) is h
