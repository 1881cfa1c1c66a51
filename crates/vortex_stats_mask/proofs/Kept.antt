-- Masks of which the valid rows are kept, run by run.
use Rattle.std.proofs.Common.{◌≡◌, refl, sym, ap, ◌∙◌, subst, ℕ, zero, suc, ◌+◌, ◌-◌, ◌≤◌, Bool, true, false, ◌&&◌, ◌||◌, ◌<◌, List, [], ◌∷◌, ◌++◌, length, get_or, take, drop, map, arith, Option, Some, None}
use Rattle.std.specs.List.{zip, list_any, slice_range}
use Rattle.std.proofs.lemmas.List.{take_more, get_or-drop, length-drop}
use Rattle.std.proofs.Math.Bool.{or-false, and_comm}
use Rattle.vortex_stats_mask.specs.Columns.{both_rows, kept, kept_first}
use Rattle.vortex_stats_mask.proofs.Changed.{changed_length, cut_beside}

-- ---- whether a mask has a row of a run

or_last : (rows : List Bool) (b : Bool) → (list_any (λ row. row) rows || b) ≡ list_any (λ row. row) (rows ++ b ∷ [])
or_last [] b = sym (or-false b)
or_last (true ∷ rows) b = refl
or_last (false ∷ rows) b = or_last rows b

pub no_row_yet : (rows : List Bool) (from : ℕ) → false ≡ list_any (λ row. row) (slice_range rows from from)
no_row_yet rows from = ap (λ n. list_any (λ row. row) (take n (drop from rows))) (let none : 0 ≡ from - from = omega arith in none)

pub one_row_more : (rows : List Bool) (from i : ℕ) → from ≤ i → i < length rows →
    (list_any (λ row. row) (slice_range rows from i) || get_or rows i false) ≡ list_any (λ row. row) (slice_range rows from (i + 1))
one_row_more rows from i order within =
    let many = length-drop from rows in
    let left : i - from < length (drop from rows) = omega (arith, many, order, within) in
    let place : from + (i - from) ≡ i = omega (arith, order) in
    let next : (i - from) + 1 ≡ (i + 1) - from = omega (arith, order) in
    ap (λ b. list_any (λ row. row) (take (i - from) (drop from rows)) || b) (ap (λ n. get_or rows n false) (sym place) ∙ sym (get_or-drop from rows (i - from) false))
    ∙ or_last (take (i - from) (drop from rows)) (get_or (drop from rows) (i - from) false)
    ∙ ap (list_any (λ row. row)) (sym (take_more (drop from rows) (i - from) false left))
    ∙ ap (λ n. list_any (λ row. row) (take n (drop from rows))) next

-- ---- rows that are kept

-- rows that the mask hasn't stay as they are
none_changed : (n : ℕ) (vs ms : List Bool) → n ≤ length vs → list_any (λ row. row) (take n ms) ≡ false → ms ≡ kept_first n vs ms
none_changed zero vs ms h e = refl
none_changed (suc n) vs [] h e = refl
none_changed (suc n) [] (m ∷ ms) h e = absurd (omega (arith, h))
none_changed (suc n) (v ∷ vs) (true ∷ ms) h e = absurd (cc (e))
none_changed (suc n) (v ∷ vs) (false ∷ ms) h e = ap (λ ys. false ∷ ys) (none_changed n vs ms (omega (arith, h)) e)

behind : (k n : ℕ) (vs ms : List Bool) → k + n ≤ length vs → list_any (λ row. row) (take n (drop k (kept_first k vs ms))) ≡ false →
    kept_first k vs ms ≡ kept_first (k + n) vs ms
behind zero n vs ms h e = none_changed n vs ms (omega (arith, h)) e ∙ ap (λ k. kept_first k vs ms) (let same : n ≡ 0 + n = omega arith in same)
behind (suc k) n vs [] h e = ap (λ j. kept_first j vs []) (let same : suc (k + n) ≡ suc k + n = omega arith in same)
behind (suc k) n [] (m ∷ ms) h e = absurd (omega (arith, h))
behind (suc k) n (v ∷ vs) (m ∷ ms) h e =
    ap (λ ys. (m && v) ∷ ys) (behind k n vs ms (omega (arith, h)) e)
    ∙ ap (λ j. kept_first j (v ∷ vs) (m ∷ ms)) (let same : suc (k + n) ≡ suc k + n = omega arith in same)

-- a run of which the mask has no row stays as it is
pub run_kept : (vs ms now : List Bool) (from to : ℕ) (b : Bool) → from ≤ to → to ≤ length vs → now ≡ kept_first from vs ms →
    b ≡ list_any (λ row. row) (slice_range now from to) → b ≡ false → now ≡ kept_first to vs ms
run_kept vs ms now from to b order within made is none =
    let whole : from + (to - from) ≡ to = omega arith in
    let unseen : list_any (λ row. row) (take (to - from) (drop from (kept_first from vs ms))) ≡ false =
    subst (λ l. list_any (λ row. row) (take (to - from) (drop from l)) ≡ false) made (sym is ∙ none) in
    made ∙ behind from (to - from) vs ms (omega (arith, within, order)) unseen ∙ ap (λ n. kept_first n vs ms) whole

pub kept_length : (n : ℕ) (vs ms : List Bool) → n ≤ length vs → length (kept_first n vs ms) ≡ length ms
kept_length n vs ms h = changed_length (λ (m : Bool) (v : Bool). m && v) n ms vs h

pub swapped_beside : (ms vs : List Bool) → map (λ p. p.0 && p.1) (zip ms vs) ≡ map (λ p. p.0 && p.1) (zip vs ms)
swapped_beside [] [] = refl
swapped_beside [] (v ∷ vs) = refl
swapped_beside (m ∷ ms) [] = refl
swapped_beside (m ∷ ms) (v ∷ vs) = λ i. and_comm m v i ∷ swapped_beside ms vs i

pub kept_beside : (ms vs : List Bool) → map (λ p. p.0 && p.1) (zip (take (length vs) ms) vs) ≡ map (λ p. p.0 && p.1) (zip vs ms)
kept_beside ms vs = cut_beside (λ (m : Bool) (v : Bool). m && v) ms vs ∙ swapped_beside ms vs

-- what two masks have, of which the valid rows are kept
kept_valid : (vs ms rows : List Bool) → map (λ p. p.0 && p.1) (zip vs (both_rows ms rows)) ≡ both_rows ms (map (λ p. p.0 && p.1) (zip vs rows))
kept_valid [] [] rows = refl
kept_valid [] (m ∷ ms) rows = refl
kept_valid (v ∷ vs) [] rows = refl
kept_valid (v ∷ vs) (m ∷ ms) [] = refl
kept_valid (v ∷ vs) (m ∷ ms) (r ∷ rows) = λ i. one v m r i ∷ kept_valid vs ms rows i
  where
    one : (v m r : Bool) → (v && (m && r)) ≡ (m && (v && r))
    one true m r = refl
    one false true r = refl
    one false false r = refl

pub kept_both : (o : Option (List Bool)) (ms rows : List Bool) → kept o (both_rows ms rows) ≡ both_rows ms (kept o rows)
kept_both None ms rows = refl
kept_both (Some vs) ms rows = kept_valid vs ms rows

-- rows of a mask beyond the list beside them have no part in it
pub cut_both : {A : Type 0} (f : A → Bool) (ms : List Bool) (xs : List A) → both_rows (take (length xs) ms) (map f xs) ≡ both_rows ms (map f xs)
cut_both f [] [] = refl
cut_both f (m ∷ ms) [] = refl
cut_both f [] (x ∷ xs) = refl
cut_both f (m ∷ ms) (x ∷ xs) = ap (λ ys. (m && f x) ∷ ys) (cut_both f ms xs)
