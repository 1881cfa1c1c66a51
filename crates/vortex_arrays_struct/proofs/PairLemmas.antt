-- Struct arrays from pairs.
use Rattle.std.proofs.Common.{◌≡◌, ◌<◌, ℕ, List, [], ◌∷◌, length, get_or, Some, None, refl, sym, ap, subst, ◌∙◌, arith}
use Rattle.std.specs.List.{slice_get}
use Rattle.std.proofs.lemmas.List.{get_or-map, length-map}
use Rattle.vortex_arrays_view.specs.declared.error.ArrayError.{ArrayError}
use Rattle.vortex_arrays_view.specs.declared.error.ArrayError.TheVariants.{Memory, LengthMismatch, WrongType}
use Rattle.vortex_arrays_model.specs.Layout.{Layout, records, Valid, by_array, len_of, HasLength}
use Rattle.vortex_arrays_model.specs.Parts.{columns_of}
use Rattle.vortex_arrays_core.specs.Faults.{IsValidityFault}
use Rattle.vortex_arrays_struct.specs.RecordFaults.{FitTogether, IsRecordsFault}
use Rattle.vortex_arrays_struct.specs.Pairs.{names_of, arrays_of, FitPairs, IsOfPairs, IsPairsFault}
use Rattle.vortex_arrays_struct.proofs.Fitting.{nulls_told}

abbrev Pair : Type 0
Pair = List ℕ × Layout

-- where there is a first pair
pub pairs_made : (pairs : List Pair) (v : Valid) (r : Layout) (xs : List (List ℕ)) (fs : List Layout) (n : ℕ) → 0 < length pairs → xs ≡ names_of pairs → fs ≡ arrays_of pairs → r ≡ records (columns_of xs fs) n v → FitTogether xs fs n v → IsOfPairs pairs v r
pairs_made pairs v r xs fs n some names arrays made fit = record {
  rows = n;
  fit = (some, subst (λ ys. FitTogether ys (arrays_of pairs) n v) names (subst (λ gs. FitTogether xs gs n v) arrays fit));
  made = made ∙ (λ t. records (columns_of (names t) (arrays t)) n v);
}

-- the first array gives the number of rows
first_rows : (pairs : List Pair) (v : Valid) (n m : ℕ) (p : Pair) → 0 < length pairs → p ≡ get_or pairs 0 p → n ≡ len_of p.1 → FitPairs pairs v m → m ≡ n
first_rows pairs v n m p some e l f =
    let fit = f.1 in
    let many : 0 < length (arrays_of pairs) = subst (λ k. 0 < k) (sym (length-map pairs (λ (q : Pair). q.1))) some in
    sym (fit.rows 0 p.1 many) ∙ ap len_of (get_or-map (λ (q : Pair). q.1) pairs 0 p p.1 some ∙ ap (λ (q : Pair). q.1) (sym e)) ∙ sym l

pub pairs_refused : (e : ArrayError) (pairs : List Pair) (v : Valid) (xs : List (List ℕ)) (fs : List Layout) (n : ℕ) (p : Pair) → 0 < length pairs → p ≡ get_or pairs 0 p → n ≡ len_of p.1 → xs ≡ names_of pairs → fs ≡ arrays_of pairs → IsRecordsFault e xs fs n v → IsPairsFault e pairs v
pairs_refused Memory pairs v xs fs n p some e l names arrays h = tt
pairs_refused LengthMismatch pairs v xs fs n p some e l names arrays h = (
  h.0,
  (λ m f.
      let same : m ≡ n = first_rows pairs v n m p some e l f in
      let fit : FitTogether (names_of pairs) (arrays_of pairs) n v = subst (λ k. FitTogether (names_of pairs) (arrays_of pairs) k v) same f.1 in
      h.1 (subst (λ ys. FitTogether ys fs n v) (sym names) (subst (λ gs. FitTogether (names_of pairs) gs n v) (sym arrays) fit))),
)
pairs_refused WrongType pairs v xs fs n p some e l names arrays h = h
pairs_refused e pairs v xs fs n p some f l names arrays h = absurd h

-- where there is no pair
pub none_refused : (pairs : List Pair) (v : Valid) → length pairs ≡ 0 → HasLength v 0 → IsPairsFault LengthMismatch pairs v
none_refused pairs v none h = (nulls_told v 0 h, λ n f. absurd (omega (arith, none, f.0)))

pub none_misfit : (e : ArrayError) (pairs : List Pair) (v : Valid) → length pairs ≡ 0 → IsValidityFault e v 0 → IsPairsFault e pairs v
none_misfit WrongType pairs (by_array a) none h = h
none_misfit LengthMismatch pairs (by_array a) none h = (h.0, λ n f. absurd (omega (arith, none, f.0)))
none_misfit e pairs v none h = absurd h

pub pairs_there : (pairs : List Pair) (p : Pair) → slice_get pairs 0 ≡ Some p → 0 < length pairs
pairs_there [] p e = absurd (cc (e))
pairs_there (q ∷ pairs) p e = omega arith

pub first_pair : (pairs : List Pair) (p : Pair) → slice_get pairs 0 ≡ Some p → p ≡ get_or pairs 0 p
first_pair [] p e = absurd (cc (e))
first_pair (q ∷ pairs) p e = sym (cc (e))

pub no_pair : (pairs : List Pair) → slice_get pairs 0 ≡ None → length pairs ≡ 0
no_pair [] e = refl
no_pair (q ∷ pairs) e = absurd (cc (e))

pub ruleset paired = (pairs_made, pairs_refused, none_refused, none_misfit, pairs_there, first_pair, no_pair)
