-- The items of runs.
use Rattle.std.proofs.Common.{◌≡◌, ◌<◌, ◌≤◌, ◌+◌, ◌-◌, ℕ, zero, suc, pos, Bool, false, List, [], ◌∷◌, ◌++◌, length, take, drop, map, get_or, set, replicate, refl, sym, ap, ◌∙◌, append_assoc, drop-cons, arith}
use Rattle.std.specs.List.{range_with_len}
use Rattle.std.proofs.lemmas.List.{append-nil, take_more, take_more_set, take_all, take-append-drop, map-append, take-map, drop-map, length-map, length-drop, length-append, length-set, length-replicate, get_or-drop}
use Rattle.std.proofs.lemmas.List.Concat.{flat_map-append}
use Rattle.vortex_arrays_rebuild.specs.declared.runs.Run.{Run}
use Rattle.vortex_arrays_rebuild.specs.Runs.{positions_of, positions_in, items_of_run, items_in, FitWithin}
use Rattle.vortex_arrays_rebuild.proofs.CopyLemmas.{run_within, counted_more}

-- one more run is copied
pub items_pushed : {A : Type 0} (xs ys zs : List A) (runs : List Run) (i : ℕ) (r : Run) → ys ≡ items_in xs (take i runs) → i < length runs → r ≡ get_or runs i r → zs ≡ ys ++ items_of_run xs r → zs ≡ items_in xs (take (i + 1) runs)
items_pushed xs ys zs runs i r h l e more =
    let grown : items_in xs (take (i + 1) runs) ≡ items_in xs (take i runs) ++ items_of_run xs r =
    ap (items_in xs) (take_more runs i r l ∙ ap (λ x. take i runs ++ x ∷ []) (sym e)) ∙ flat_map-append (items_of_run xs) (take i runs) (r ∷ []) ∙ ap (λ t. items_in xs (take i runs) ++ t) (append-nil (items_of_run xs r)) in
    more ∙ ap (λ t. t ++ items_of_run xs r) h ∙ sym grown

-- one more run is copied, as a slice
pub items_more : {A : Type 0} (xs ys zs : List A) (runs : List Run) (i : ℕ) (r : Run) → ys ≡ items_in xs (take i runs) → i < length runs → r ≡ get_or runs i r → zs ≡ ys ++ take (r.start + r.len - r.start) (drop r.start xs) → zs ≡ items_in xs (take (i + 1) runs)
items_more xs ys zs runs i r h l e more =
    let same : r.start + r.len - r.start ≡ r.len = omega arith in
    items_pushed xs ys zs runs i r h l e (more ∙ ap (λ n. ys ++ take n (drop r.start xs)) same)

pub items_all : {A : Type 0} (xs : List A) (runs : List Run) (n : ℕ) → length runs ≤ n → items_in xs (take n runs) ≡ items_in xs runs
items_all xs runs n h = ap (items_in xs) (take_all n runs h)

pub ruleset copied = (items_more, items_all, run_within)

-- ---- the items at the indices

run_items : {A : Type 0} (xs : List A) (d : A) (n s : ℕ) → s + n ≤ length xs → take n (drop s xs) ≡ map (λ i. get_or xs i d) (range_with_len s n)
run_items xs d zero s h = refl
run_items xs d (suc n) s h =
    let here : s < length xs = omega arith in
    let next : suc s ≡ s + 1 = omega arith in
    ap (take (suc n)) (drop-cons xs s d here) ∙ ap (λ k. get_or xs s d ∷ take n (drop k xs)) next
    ∙ ap (λ l. get_or xs s d ∷ l) (run_items xs d n (s + 1) (omega arith))

pub items_are : {A : Type 0} (xs : List A) (d : A) (runs : List Run) → FitWithin (length xs) runs → items_in xs runs ≡ map (λ i. get_or xs i d) (positions_in runs)
items_are xs d [] h = refl
items_are xs d (r ∷ rs) h =
    (λ t. run_items xs d r.len r.start (h.each 0 r (omega arith)) t ++ items_are xs d rs (record { each = λ k e l. h.each (suc k) e (omega arith) }) t)
    ∙ sym (map-append (λ i. get_or xs i d) (positions_of r) (positions_in rs))

-- the items under a function
pub items_map : {A B : Type 0} (f : A → B) (xs : List A) (runs : List Run) → items_in (map f xs) runs ≡ map f (items_in xs runs)
items_map f xs [] = refl
items_map f xs (r ∷ rs) =
    (λ t. (ap (take r.len) (drop-map f r.start xs) ∙ take-map f r.len (drop r.start xs)) t ++ items_map f xs rs t)
    ∙ sym (map-append f (items_of_run xs r) (items_in xs rs))

-- natural numbers as integers
pub naturals_copied : (xs ys : List ℕ) (runs : List Run) → ys ≡ items_in xs runs → map pos ys ≡ items_in (map pos xs) runs
naturals_copied xs ys runs e = ap (map pos) e ∙ sym (items_map pos xs runs)

pub naturals_many : (xs : List ℕ) → length (map pos xs) ≡ length xs
naturals_many xs = length-map xs pos

pub ruleset naturals = (naturals_copied, naturals_many)

-- ---- bits, written at their indices

-- the first n bits of a run are written from an index on
pub record Put (old xs now : List Bool) (at from n : ℕ) : Type 0 where
  pub front : take (at + n) now ≡ take at old ++ take n (drop from xs)
  pub same : length now ≡ length old

pub put_none : (old xs : List Bool) (at from : ℕ) → Put old xs old at from 0
put_none old xs at from =
    let none : at + 0 ≡ at = omega arith in
    record { front = ap (λ k. take k old) none ∙ sym (append-nil (take at old)); same = refl }

pub put_more : (old xs now : List Bool) (at from n m : ℕ) (x : Bool) → at + m ≤ length old → n < m → from + m ≤ length xs → x ≡ get_or xs (from + n) false → Put old xs now at from n → Put old xs (set now (at + n) x) at from (n + 1)
put_more old xs now at from n m x room l fits e p =
    let next : at + (n + 1) ≡ at + n + 1 = omega arith in
    let inside : n < length (drop from xs) = omega (arith, length-drop from xs) in
    let place : at + n < length now = omega (arith, p.same) in
    let there : get_or (drop from xs) n false ≡ x = get_or-drop from xs n false ∙ sym e in
    record {
      front = ap (λ k. take k (set now (at + n) x)) next ∙ take_more_set now (at + n) x place
          ∙ ap (λ ys. ys ++ x ∷ []) p.front ∙ append_assoc (take at old) (take n (drop from xs)) (x ∷ [])
          ∙ ap (λ ys. take at old ++ ys) (sym (take_more (drop from xs) n false inside ∙ ap (λ y. take n (drop from xs) ++ y ∷ []) there));
      same = length-set now (at + n) x ∙ p.same;
    }

pub put_all : (old xs now : List Bool) (at from n m : ℕ) → n ≡ m → Put old xs now at from n → take (at + m) now ≡ take at old ++ take m (drop from xs)
put_all old xs now at from n m e p = ap (λ k. take (at + k) now) (sym e) ∙ p.front ∙ ap (λ k. take at old ++ take k (drop from xs)) e

-- the bits of the first i runs are written before an index
pub record Written (xs now : List Bool) (runs : List Run) (i next : ℕ) : Type 0 where
  pub front : take next now ≡ items_in xs (take i runs)
  pub counted : next ≡ length (positions_in (take i runs))
  pub same : length now ≡ length (positions_in runs)

pub written_none : (xs : List Bool) (runs : List Run) (n : ℕ) → n ≡ length (positions_in runs) → Written xs (replicate n false) runs 0 0
written_none xs runs n e = record { front = refl; counted = refl; same = length-replicate n false ∙ e }

pub written_more : (xs old now : List Bool) (runs : List Run) (i next : ℕ) (r : Run) → i < length runs → r ≡ get_or runs i r → take (next + r.len) now ≡ take next old ++ items_of_run xs r → length now ≡ length old → Written xs old runs i next → Written xs now runs (i + 1) (next + r.len)
written_more xs old now runs i next r l e front same w = record {
  front = items_pushed xs (take next old) (take (next + r.len) now) runs i r w.front l e front;
  counted = counted_more runs i next r l e w.counted;
  same = same ∙ w.same;
}

-- there is room for one more run
pub room_left : (xs now : List Bool) (runs : List Run) (i next : ℕ) (r : Run) → i < length runs → r ≡ get_or runs i r → Written xs now runs i next → next + r.len ≤ length now
room_left xs now runs i next r l e w =
    let more = counted_more runs i next r l e w.counted in
    let whole : length (positions_in runs) ≡ length (positions_in (take (i + 1) runs)) + length (positions_in (drop (i + 1) runs)) =
    ap (λ rs. length (positions_in rs)) (sym (take-append-drop (i + 1) runs)) ∙ ap length (flat_map-append positions_of (take (i + 1) runs) (drop (i + 1) runs)) ∙ length-append (positions_in (take (i + 1) runs)) (positions_in (drop (i + 1) runs)) in
    omega (arith, more, whole, w.same)

pub written_all : (xs now : List Bool) (runs : List Run) (i next : ℕ) → length runs ≤ i → Written xs now runs i next → now ≡ items_in xs runs
written_all xs now runs i next h w =
    let all = ap (λ rs. length (positions_in rs)) (take_all i runs h) in
    let full : length now ≤ next = omega (arith, w.same, w.counted, all) in
    sym (take_all next now full) ∙ w.front ∙ ap (items_in xs) (take_all i runs h)

pub ruleset written = (written_none, written_more, written_all, run_within)
