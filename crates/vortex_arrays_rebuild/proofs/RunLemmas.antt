-- Runs of elements, one after another.
use Rattle.std.proofs.Common.{◌≡◌, ◌+◌, ℕ, List, [], ◌∷◌, ◌++◌, length, get_or, refl, sym, ap, subst, ◌∙◌, append_assoc, arith}
use Rattle.std.specs.List.{range_with_len}
use Rattle.std.proofs.lemmas.List.{append-nil, length-append}
use Rattle.std.proofs.lemmas.List.Concat.{flat_map-append}
use Rattle.std.proofs.lemmas.List.FromFn.{length-range_with_len}
use Rattle.std.proofs.lemmas.List.Elements.{All-append}
use Rattle.vortex_model.proofs.Lists.{range_split}
use Rattle.vortex_arrays_rebuild.specs.declared.runs.Run.{Run}
use Rattle.vortex_arrays_rebuild.specs.Runs.{positions_of, positions_in, FitWithin, LiesWithin}

-- the last run extended
pub extended : (ps : List ℕ) (a n b m : ℕ) → b ≡ a + n → ps ++ range_with_len a (n + m) ≡ (ps ++ range_with_len a n) ++ range_with_len b m
extended ps a n b m e = ap (λ l. ps ++ l) (range_split a n m (n + m) b refl e) ∙ sym (append_assoc ps (range_with_len a n) (range_with_len b m))

-- one more run
pub positions_push : (runs : List Run) (r : Run) → positions_in (runs ++ r ∷ []) ≡ positions_in runs ++ positions_of r
positions_push runs r = flat_map-append positions_of runs (r ∷ []) ∙ ap (λ l. positions_in runs ++ l) (append-nil (positions_of r))

-- an empty run
pub added_none : (ps : List ℕ) (a n : ℕ) → n ≡ 0 → ps ++ range_with_len a n ≡ ps
added_none ps a n e = ap (λ k. ps ++ range_with_len a k) e ∙ append-nil ps

pub length_added : (ps : List ℕ) (a n : ℕ) → length (ps ++ range_with_len a n) ≡ length ps + n
length_added ps a n = length-append ps (range_with_len a n) ∙ ap (λ k. length ps + k) (length-range_with_len a n)

-- each run is within the elements: with no run, and with one more
pub fit_none : (n : ℕ) (runs : List Run) → runs ≡ [] → FitWithin n runs
fit_none n runs e = subst (FitWithin n) (sym e) (record { each = λ k d l. absurd (omega arith) })

pub fit_push : (n : ℕ) (runs ts : List Run) (r : Run) → FitWithin n runs → LiesWithin n r → ts ≡ runs ++ r ∷ [] → FitWithin n ts
fit_push n runs ts r h l e = subst (FitWithin n) (sym e) (record { each = All-append (LiesWithin n) runs (r ∷ []) h.each (λ k d b. let here : k ≡ 0 = omega arith in subst (λ j. LiesWithin n (get_or (r ∷ []) j d)) (sym here) l) })

pub ruleset runs = (extended, positions_push, added_none, length_added, fit_none, fit_push)
