-- Runs of the elements of fixed-size lists.
use Rattle.std.proofs.Common.{◌≡◌, ◌<◌, ◌≤◌, ◌+◌, ◌*◌, ℕ, zero, suc, List, [], ◌∷◌, ◌++◌, length, take, get_or, set, sym, ap, subst, ◌∙◌, arith}
use Rattle.std.proofs.lemmas.Nat.{mul-le}
use Rattle.std.specs.List.{range_with_len}
use Rattle.std.proofs.lemmas.List.{append-nil, take_more, take_more_set, take_all, length-append, get_or_append_left, get_or-append-add}
use Rattle.std.proofs.lemmas.List.Concat.{flat_map-append}
use Rattle.std.proofs.lemmas.List.FromFn.{length-range_with_len, get_or-range_with_len}
use Rattle.vortex_model.proofs.Lists.{range_split}
use Rattle.vortex_arrays_rebuild.specs.declared.runs.Run.{Run}
use Rattle.vortex_arrays_rebuild.specs.Runs.{positions_of, positions_in, elements_at, FitWithin, LiesWithin}
use Rattle.vortex_arrays_rebuild.proofs.CopyLemmas.{run_within}
use Rattle.vortex_arrays_rebuild.proofs.RunLemmas.{fit_none, fit_push}

-- the elements of neighbouring lists are neighbours
scaled_range : (size n start : ℕ) → range_with_len (start * size) (n * size) ≡ elements_at size (range_with_len start n)
scaled_range size zero start = let e : 0 * size ≡ 0 = omega arith in ap (range_with_len (start * size)) e
scaled_range size (suc n) start =
    let e : suc n * size ≡ size + n * size = omega arith in
    let f : start * size + size ≡ (start + 1) * size = omega arith in
    range_split (start * size) size (n * size) (suc n * size) ((start + 1) * size) e (sym f)
    ∙ ap (λ l. range_with_len (start * size) size ++ l) (scaled_range size n (start + 1))

pub length_elements : (size : ℕ) (ps : List ℕ) → length (elements_at size ps) ≡ length ps * size
length_elements size [] = omega arith
length_elements size (p ∷ ps) =
    let here : length (range_with_len (p * size) size) ≡ size = length-range_with_len (p * size) size in
    let rest : length (elements_at size ps) ≡ length ps * size = length_elements size ps in
    let e : size + length ps * size ≡ suc (length ps) * size = omega arith in
    length-append (range_with_len (p * size) size) (elements_at size ps) ∙ (λ t. here t + rest t) ∙ e

-- element k of list i
pub element_at : (size : ℕ) (ps : List ℕ) (i k : ℕ) → i < length ps → k < size → get_or (elements_at size ps) (i * size + k) 0 ≡ get_or ps i 0 * size + k
element_at size [] i k l m = absurd (omega arith)
element_at size (p ∷ ps) zero k l m =
    let e : 0 * size + k ≡ k = omega arith in
    ap (λ j. get_or (range_with_len (p * size) size ++ elements_at size ps) j 0) e
    ∙ get_or_append_left (range_with_len (p * size) size) (elements_at size ps) 0 k (subst (λ n. k < n) (sym (length-range_with_len (p * size) size)) m)
    ∙ get_or-range_with_len (p * size) size k 0 m
element_at size (p ∷ ps) (suc i) k l m =
    let many : length (range_with_len (p * size) size) ≡ size = length-range_with_len (p * size) size in
    let e : suc i * size + k ≡ length (range_with_len (p * size) size) + (i * size + k) = omega (arith, many) in
    ap (λ j. get_or (range_with_len (p * size) size ++ elements_at size ps) j 0) e
    ∙ get_or-append-add (range_with_len (p * size) size) (elements_at size ps) (i * size + k) 0
    ∙ element_at size ps i k (omega arith) m

-- one more run
pub scaled_more : (size : ℕ) (runs ss ts : List Run) (i : ℕ) (r s : Run) → positions_in ss ≡ elements_at size (positions_in (take i runs)) → i < length runs → r ≡ get_or runs i r → s.start ≡ r.start * size → s.len ≡ r.len * size → ts ≡ ss ++ s ∷ [] → positions_in ts ≡ elements_at size (positions_in (take (i + 1) runs))
scaled_more size runs ss ts i r s h l e st ln more =
    let grown : positions_in (take (i + 1) runs) ≡ positions_in (take i runs) ++ positions_of r =
    ap positions_in (take_more runs i r l ∙ ap (λ x. take i runs ++ x ∷ []) (sym e)) ∙ flat_map-append positions_of (take i runs) (r ∷ []) ∙ ap (λ t. positions_in (take i runs) ++ t) (append-nil (positions_of r)) in
    let here : positions_of s ≡ elements_at size (positions_of r) = (λ t. range_with_len (st t) (ln t)) ∙ scaled_range size r.len r.start in
    ap positions_in more ∙ flat_map-append positions_of ss (s ∷ []) ∙ ap (λ t. positions_in ss ++ t) (append-nil (positions_of s))
    ∙ (λ t. h t ++ here t) ∙ sym (flat_map-append (λ p. range_with_len (p * size) size) (positions_in (take i runs)) (positions_of r)) ∙ ap (elements_at size) (sym grown)

pub scaled_all : (size : ℕ) (runs : List Run) (n : ℕ) → length runs ≤ n → elements_at size (positions_in (take n runs)) ≡ elements_at size (positions_in runs)
scaled_all size runs n h = ap (λ rs. elements_at size (positions_in rs)) (take_all n runs h)

-- one more run, written at its index
pub scaled_set : (size : ℕ) (runs ss : List Run) (i : ℕ) (r s : Run) → positions_in (take i ss) ≡ elements_at size (positions_in (take i runs)) → length ss ≡ length runs → i < length runs → r ≡ get_or runs i r → s.start ≡ r.start * size → s.len ≡ r.len * size → positions_in (take (i + 1) (set ss i s)) ≡ elements_at size (positions_in (take (i + 1) runs))
scaled_set size runs ss i r s h m l e st ln = scaled_more size runs (take i ss) (take (i + 1) (set ss i s)) i r s h l e st ln (take_more_set ss i s (subst (λ n. i < n) (sym m) l))

pub fit_set : (n : ℕ) (ss : List Run) (i m : ℕ) (s : Run) → FitWithin n (take i ss) → LiesWithin n s → length ss ≡ m → i < m → FitWithin n (take (i + 1) (set ss i s))
fit_set n ss i m s h w e l = fit_push n (take i ss) (take (i + 1) (set ss i s)) s h w (take_more_set ss i s (subst (λ k. i < k) (sym e) l))

pub scaled_whole : (size i : ℕ) (runs ss : List Run) → length ss ≡ length runs → length runs ≤ i → positions_in (take i ss) ≡ elements_at size (positions_in (take i runs)) → positions_in ss ≡ elements_at size (positions_in runs)
scaled_whole size i runs ss e l h = ap positions_in (sym (take_all i ss (omega (arith, e)))) ∙ h ∙ scaled_all size runs i l

pub fit_whole : (n i m : ℕ) (ss : List Run) → length ss ≡ m → m ≤ i → FitWithin n (take i ss) → FitWithin n ss
fit_whole n i m ss e l h = subst (FitWithin n) (take_all i ss (omega (arith, e))) h

pub ruleset scaled = (scaled_whole, fit_none, fit_whole, run_within, length_elements)

-- the product is at most the count
pub fits_below : (start len size lists count : ℕ) → count ≡ lists * size → start + len ≤ lists → start * size + len * size ≤ count
fits_below start len size lists count e h =
    let all : (start + len) * size ≤ count = subst (λ c. (start + len) * size ≤ c) (sym e) (mul-le (start + len) size lists size h (omega arith)) in
    omega (arith, all)

pub ruleset element_run = (fits_below)
