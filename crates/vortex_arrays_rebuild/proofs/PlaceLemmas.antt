-- The indices of the elements of runs, written one after another.
use Rattle.std.proofs.Common.{◌≡◌, ◌<◌, ◌≤◌, ◌+◌, ℕ, List, [], ◌∷◌, ◌++◌, length, take, drop, get_or, set, replicate, refl, sym, ap, ◌∙◌, append_assoc, arith}
use Rattle.std.specs.List.{range_with_len}
use Rattle.std.proofs.lemmas.List.{append-nil, take_more_set, take_all, take-append-drop, length-append, length-set, length-replicate}
use Rattle.std.proofs.lemmas.List.Concat.{flat_map-append}
use Rattle.vortex_arrays_model.proofs.CanonicalLemmas.{range_more}
use Rattle.vortex_arrays_rebuild.specs.declared.runs.Run.{Run}
use Rattle.vortex_arrays_rebuild.specs.Runs.{positions_of, positions_in}
use Rattle.vortex_arrays_rebuild.proofs.CopyLemmas.{run_within, positions_more, counted_more, all_runs}

-- the first n indices of a run are written from an index on
pub record PutPlaces (old now : List ℕ) (at from n : ℕ) : Type 0 where
  pub front : take (at + n) now ≡ take at old ++ range_with_len from n
  pub same : length now ≡ length old

pub put_none : (old : List ℕ) (at from : ℕ) → PutPlaces old old at from 0
put_none old at from =
    let none : at + 0 ≡ at = omega arith in
    record { front = ap (λ k. take k old) none ∙ sym (append-nil (take at old)); same = refl }

pub put_more : (old now : List ℕ) (at from n m x : ℕ) → at + m ≤ length old → n < m → x ≡ from + n → PutPlaces old now at from n → PutPlaces old (set now (at + n) x) at from (n + 1)
put_more old now at from n m x room l e p =
    let next : at + (n + 1) ≡ at + n + 1 = omega arith in
    let place : at + n < length now = omega (arith, p.same) in
    record {
      front = ap (λ k. take k (set now (at + n) x)) next ∙ take_more_set now (at + n) x place
          ∙ ap (λ ys. ys ++ x ∷ []) p.front ∙ append_assoc (take at old) (range_with_len from n) (x ∷ [])
          ∙ ap (λ ys. take at old ++ ys) (ap (λ y. range_with_len from n ++ y ∷ []) e ∙ sym (range_more from n));
      same = length-set now (at + n) x ∙ p.same;
    }

pub put_all : (old now : List ℕ) (at from n m : ℕ) → n ≡ m → PutPlaces old now at from n → take (at + m) now ≡ take at old ++ range_with_len from m
put_all old now at from n m e p = ap (λ k. take (at + k) now) (sym e) ∙ p.front ∙ ap (λ k. take at old ++ range_with_len from k) e

-- the indices of the first i runs are written before an index
pub record Placed (now : List ℕ) (runs : List Run) (i next : ℕ) : Type 0 where
  pub front : take next now ≡ positions_in (take i runs)
  pub counted : next ≡ length (positions_in (take i runs))
  pub same : length now ≡ length (positions_in runs)

pub placed_none : (runs : List Run) (n : ℕ) → n ≡ length (positions_in runs) → Placed (replicate n 0) runs 0 0
placed_none runs n e = record { front = refl; counted = refl; same = length-replicate n 0 ∙ e }

pub placed_more : (old now : List ℕ) (runs : List Run) (i next : ℕ) (r : Run) → i < length runs → r ≡ get_or runs i r → take (next + r.len) now ≡ take next old ++ positions_of r → length now ≡ length old → Placed old runs i next → Placed now runs (i + 1) (next + r.len)
placed_more old now runs i next r l e front same w = record {
  front = front ∙ ap (λ t. t ++ positions_of r) w.front ∙ sym (positions_more runs i r l e);
  counted = counted_more runs i next r l e w.counted;
  same = same ∙ w.same;
}

-- there is room for one more run
pub room_left : (now : List ℕ) (runs : List Run) (i next : ℕ) (r : Run) → i < length runs → r ≡ get_or runs i r → Placed now runs i next → next + r.len ≤ length now
room_left now runs i next r l e w =
    let more = counted_more runs i next r l e w.counted in
    let whole : length (positions_in runs) ≡ length (positions_in (take (i + 1) runs)) + length (positions_in (drop (i + 1) runs)) =
    ap (λ rs. length (positions_in rs)) (sym (take-append-drop (i + 1) runs)) ∙ ap length (flat_map-append positions_of (take (i + 1) runs) (drop (i + 1) runs)) ∙ length-append (positions_in (take (i + 1) runs)) (positions_in (drop (i + 1) runs)) in
    omega (arith, more, whole, w.same)

pub placed_all : (now : List ℕ) (runs : List Run) (i next : ℕ) → length runs ≤ i → Placed now runs i next → now ≡ positions_in runs
placed_all now runs i next h w =
    let all = ap (λ rs. length (positions_in rs)) (take_all i runs h) in
    let full : length now ≤ next = omega (arith, w.same, w.counted, all) in
    sym (take_all next now full) ∙ w.front ∙ all_runs runs i h

pub ruleset placed = (placed_none, placed_more, run_within)
