-- Lists of statistics with their values viewed through a function, which reading, setting and
-- removing preserve.
use Rattle.std.proofs.Common.{◌≡◌, ◌++◌, ◌||◌, ◌&&◌, List, [], ◌∷◌, Some, option_map, Bool, true, false, not, cond, if◌then◌else◌, map, refl, sym, ap, ◌∙◌}
use Rattle.vortex_stats_expr.specs.declared.stat.Stat.{Stat}
use Rattle.vortex_stats_set.specs.Sets.{is_of, has_stat, is_set, with_value, set_in, without, value_in}

-- the pairs with their values viewed
abbrev pub mapped : {A B : Type 0} → (A → B) → List (Stat × A) → List (Stat × B)
mapped f xs = map (λ e. (e.0, f e.1)) xs

pub value_in-mapped : {A B : Type 0} (f : A → B) (xs : List (Stat × A)) (s : Stat) → value_in (mapped f xs) s ≡ option_map f (value_in xs s)
value_in-mapped f [] s = refl
value_in-mapped {A} {B} f (e ∷ es) s =
    let at : (b : Bool) → (if b then Some (f e.1) else value_in (mapped f es) s) ≡ option_map f (if b then Some e.1 else value_in es s) = λ b. elim b as (λ v. (if v then Some (f e.1) else value_in (mapped f es) s) ≡ option_map f (if v then Some e.1 else value_in es s)) [
      | true ↦ refl
      | false ↦ value_in-mapped f es s
    ] in
    at (is_of s e)

pub has_stat-mapped : {A B : Type 0} (f : A → B) (xs : List (Stat × A)) (s : Stat) → has_stat (mapped f xs) s ≡ has_stat xs s
has_stat-mapped f [] s = refl
has_stat-mapped f (e ∷ es) s = ap (λ b. is_of s e || b) (has_stat-mapped f es s)

pub is_set-mapped : {A B : Type 0} (f : A → B) (xs : List (Stat × A)) → is_set (mapped f xs) ≡ is_set xs
is_set-mapped f [] = refl
is_set-mapped f (e ∷ es) =
    ap (λ b. not b && is_set (mapped f es)) (has_stat-mapped f es e.0) ∙ ap (λ b. not (has_stat es e.0) && b) (is_set-mapped f es)

with_value-mapped : {A B : Type 0} (f : A → B) (xs : List (Stat × A)) (s : Stat) (a : A) → mapped f (map (with_value s a) xs) ≡ map (with_value s (f a)) (mapped f xs)
with_value-mapped f [] s a = refl
with_value-mapped {A} {B} f (e ∷ es) s a =
    let at : (b : Bool) → f (if b then a else e.1) ≡ (if b then f a else f e.1) = λ b. elim b as (λ v. f (if v then a else e.1) ≡ (if v then f a else f e.1)) [
      | true ↦ refl
      | false ↦ refl
    ] in
    ap (λ v. (e.0, v) ∷ mapped f (map (with_value s a) es)) (at (is_of s e))
    ∙ ap (λ rest. (e.0, if is_of s e then f a else f e.1) ∷ rest) (with_value-mapped f es s a)

push-mapped : {A B : Type 0} (f : A → B) (xs : List (Stat × A)) (s : Stat) (a : A) → mapped f (xs ++ (s, a) ∷ []) ≡ mapped f xs ++ (s, f a) ∷ []
push-mapped f [] s a = refl
push-mapped f (e ∷ es) s a = ap (λ rest. (e.0, f e.1) ∷ rest) (push-mapped f es s a)

set_by-mapped : {A B : Type 0} (f : A → B) (xs : List (Stat × A)) (s : Stat) (a : A) (b : Bool) →
    mapped f (if b then map (with_value s a) xs else xs ++ (s, a) ∷ []) ≡ (if b then map (with_value s (f a)) (mapped f xs) else mapped f xs ++ (s, f a) ∷ [])
set_by-mapped f xs s a true = with_value-mapped f xs s a
set_by-mapped f xs s a false = push-mapped f xs s a

pub set_in-mapped : {A B : Type 0} (f : A → B) (xs : List (Stat × A)) (s : Stat) (a : A) → mapped f (set_in xs s a) ≡ set_in (mapped f xs) s (f a)
set_in-mapped f xs s a =
    set_by-mapped f xs s a (has_stat xs s)
    ∙ ap (λ b. if b then map (with_value s (f a)) (mapped f xs) else mapped f xs ++ (s, f a) ∷ []) (sym (has_stat-mapped f xs s))

pub without-mapped : {A B : Type 0} (f : A → B) (xs : List (Stat × A)) (s : Stat) → mapped f (without xs s) ≡ without (mapped f xs) s
without-mapped f [] s = refl
without-mapped {A} {B} f (e ∷ es) s =
    let at : (b : Bool) → mapped f (cond b (e ∷ without es s) (without es s)) ≡ cond b ((e.0, f e.1) ∷ without (mapped f es) s) (without (mapped f es) s) = λ b. elim b as (λ v. mapped f (cond v (e ∷ without es s) (without es s)) ≡ cond v ((e.0, f e.1) ∷ without (mapped f es) s) (without (mapped f es) s)) [
      | true ↦ ap (λ rest. (e.0, f e.1) ∷ rest) (without-mapped f es s)
      | false ↦ without-mapped f es s
    ] in
    at (not (is_of s e))
