-- Copies of the rows of runs.
use Rattle.std.proofs.Common.{◌≡◌, ◌<◌, ◌≤◌, ◌+◌, ◌-◌, ℕ, suc, List, [], ◌∷◌, ◌++◌, length, take, get_or, sym, ap, subst, ◌∙◌, append_assoc, arith}
use Rattle.std.specs.List.{range_with_len, All}
use Rattle.std.proofs.lemmas.List.{take_more, take_all}
use Rattle.std.proofs.lemmas.List.Elements.{All-append}
use Rattle.std.proofs.lemmas.List.FromFn.{length-range_with_len, get_or-range_with_len}
use Rattle.vortex_arrays_model.specs.Layout.{Layout}
use Rattle.vortex_arrays_model.specs.Picks.{Picks}
use Rattle.vortex_arrays_model.proofs.PicksLemmas.{picks_same}
use Rattle.vortex_arrays_model.proofs.CanonicalLemmas.{All-range, range_more}
use Rattle.vortex_arrays_rebuild.specs.declared.runs.Run.{Run}
use Rattle.vortex_arrays_rebuild.specs.Runs.{positions_of, positions_in, FitWithin, LiesWithin}
use Rattle.vortex_arrays_rebuild.proofs.RunLemmas.{positions_push, length_added}

-- the indices of runs within the elements
positions_below : (n : ℕ) (runs : List Run) → All (LiesWithin n) runs → All (λ i. i < n) (positions_in runs)
positions_below n [] h = λ k d l. absurd (omega arith)
positions_below n (r ∷ rs) h = All-append (λ i. i < n) (positions_of r) (positions_in rs) (All-range r.start r.len n (h 0 r (omega arith))) (positions_below n rs (λ k d l. h (suc k) d (omega arith)))

pub positions_within : (n : ℕ) (runs : List Run) → FitWithin n runs → All (λ i. i < n) (positions_in runs)
positions_within n runs h = positions_below n runs h.each

-- the indices of one more run
pub positions_more : (runs : List Run) (i : ℕ) (r : Run) → i < length runs → r ≡ get_or runs i r → positions_in (take (i + 1) runs) ≡ positions_in (take i runs) ++ positions_of r
positions_more runs i r l e = ap positions_in (take_more runs i r l ∙ ap (λ x. take i runs ++ x ∷ []) (sym e)) ∙ positions_push (take i runs) r

-- the number of indices with one more run
pub counted_more : (runs : List Run) (i next : ℕ) (r : Run) → i < length runs → r ≡ get_or runs i r → next ≡ length (positions_in (take i runs)) → next + r.len ≡ length (positions_in (take (i + 1) runs))
counted_more runs i next r l e h = ap (λ n. n + r.len) h ∙ sym (ap length (positions_more runs i r l e) ∙ length_added (positions_in (take i runs)) r.start r.len)

-- one run is a slice
pub one_run : (a r : Layout) (runs : List Run) (run : Run) → length runs ≡ 1 → run ≡ get_or runs 0 run → Picks a r (run.start + run.len - run.start) (λ i. run.start + i) → Picks a r (length (positions_in runs)) (λ i. get_or (positions_in runs) i 0)
one_run a r [] run m e p = absurd (omega arith)
one_run a r (x ∷ y ∷ rest) run m e p = absurd (omega arith)
one_run a r (x ∷ []) run m e p =
    let same : positions_in (x ∷ []) ≡ range_with_len run.start run.len = positions_push [] x ∙ ap positions_of (sym e) in
    let many : run.start + run.len - run.start ≡ run.len = omega arith in
    subst (λ ps. Picks a r (length ps) (λ i. get_or ps i 0)) (sym same)
    (subst (λ n. Picks a r n (λ i. get_or (range_with_len run.start run.len) i 0)) (sym (length-range_with_len run.start run.len))
    (picks_same a r run.len (λ i. run.start + i) (λ i. get_or (range_with_len run.start run.len) i 0) (λ i l. sym (get_or-range_with_len run.start run.len i 0 l)) (subst (λ n. Picks a r n (λ i. run.start + i)) many p)))

-- the run that is read is within the elements
pub run_within : (n : ℕ) (runs : List Run) (i : ℕ) (r : Run) → FitWithin n runs → i < length runs → r ≡ get_or runs i r → r.start + r.len ≤ n
run_within n runs i r h l e = subst (LiesWithin n) (sym e) (h.each i r l)

pub all_runs : (runs : List Run) (n : ℕ) → length runs ≤ n → positions_in (take n runs) ≡ positions_in runs
all_runs runs n h = ap positions_in (take_all n runs h)

pub ruleset sliced = (one_run, run_within)
