-- Ranges of leaf columns.
use Rattle.std.proofs.Common.{◌≡◌, ◌<◌, ◌≤◌, ◌+◌, ℕ, zero, suc, List, [], ◌∷◌, length, get_or, take, drop, true, ◌==◌, nat_lt, refl, sym, ap, subst, ◌∙◌, inl, inr, arith, add-one}
use Rattle.std.specs.List.{All}
use Rattle.std.proofs.lemmas.Bool.{cases_eq, eqb-true, ltb-true, and_parts}
use Rattle.std.proofs.lemmas.List.{drop_all, get_or-take}
use Rattle.vortex_model.specs.Content.{Content, tuple, nth}
use Rattle.vortex_model.specs.Path.{at, part_of}
use Rattle.vortex_arrays_model.specs.Layout.{Layout, len_of, content_at, row_at, HaveLength}
use Rattle.vortex_arrays_model.specs.Parts.{columns_of}
use Rattle.vortex_arrays_model.proofs.PicksLemmas.{field_length}
use Rattle.vortex_arrays_cast.specs.Ranges.{IsBetween, IsRangeIn, AreRangesOf, stands_in}
use Rattle.vortex_arrays_cast.specs.declared.ranges.LeafRange.{LeafRange}

-- a leaf that is no further steps down is the column itself
pub own : (d : ℕ) (a : Layout) (r : LeafRange) → length r.positions.now ≤ d → IsRangeIn d (len_of a) (content_at a) r → (i : ℕ) → i < len_of a → IsBetween r.low r.high (content_at a i)
own d a r here h i l = subst (λ is. IsBetween r.low r.high (at (content_at a i) is)) (drop_all d r.positions.now here) (h i l)

-- ---- one step down

rest_at : (is : List ℕ) (d index : ℕ) → d < length is → get_or is d 0 ≡ index → drop d is ≡ index ∷ drop (suc d) is
rest_at [] d index l e = absurd (omega (arith, l))
rest_at (i ∷ is) zero index l e = ap (λ j. j ∷ is) e
rest_at (i ∷ is) (suc d) index l e = rest_at is d index (omega (arith, l)) e

step_down : (d index n : ℕ) (f : ℕ → Content) (r : LeafRange) → stands_in d index r ≡ true → IsRangeIn d n f r → IsRangeIn (d + 1) n (λ i. part_of (f i) index) r
step_down d index n f r s h = λ i l.
    let is = r.positions.now in let p = and_parts (nat_lt d (length is)) (get_or is d 0 == index) s in
    subst (λ js. IsBetween r.low r.high (at (f i) js))
    (rest_at is d index (ltb-true d (length is) p.0) (eqb-true (get_or is d 0) index p.1) ∙ ap (λ m. index ∷ drop m is) (sym (add-one d))) (h i l)

-- the first of the ranges are in the field
abbrev pub StandIn : ℕ → ℕ → List LeafRange → ℕ → Type 0
StandIn d index rs count = (k : ℕ) (r : LeafRange) → k < count → r ≡ get_or rs k r → stands_in d index r ≡ true

same_range : (rs : List LeafRange) (k : ℕ) (q r : LeafRange) → k < length rs → q ≡ get_or rs k q → r ≡ get_or rs k r → q ≡ r
same_range [] k q r l p e = absurd (omega (arith, l))
same_range (x ∷ rs) zero q r l p e = p ∙ sym e
same_range (x ∷ rs) (suc k) q r l p e = same_range rs k q r (omega (arith, l)) p e

pub none_stand : (d index : ℕ) (rs : List LeafRange) → StandIn d index rs 0
none_stand d index rs = λ k r l e. absurd (omega (arith, l))

pub one_more_stands : (d index : ℕ) (rs : List LeafRange) (count : ℕ) (r : LeafRange) → StandIn d index rs count → count < length rs → r ≡ get_or rs count r → stands_in d index r ≡ true → StandIn d index rs (count + 1)
one_more_stands d index rs count r h l e s = λ k q less at_k. elim (cases_eq k count) [
  | inl same ↦ subst (λ x. stands_in d index x ≡ true) (same_range rs count r q l e (subst (λ j. q ≡ get_or rs j q) same at_k)) s
  | inr other ↦ h k q (omega (arith, less, other)) at_k
]

itself_at : {A : Type 0} (xs : List A) (k : ℕ) (d : A) → k < length xs → get_or xs k d ≡ get_or xs k (get_or xs k d)
itself_at [] k d l = absurd (omega (arith, l))
itself_at (x ∷ xs) zero d l = refl
itself_at (x ∷ xs) (suc k) d l = itself_at xs k d (omega (arith, l))

taken_less : {A : Type 0} (count : ℕ) (xs : List A) (k : ℕ) → k < length (take count xs) → (k < count) × (k < length xs)
taken_less zero xs k l = absurd (omega (arith, l))
taken_less (suc count) [] k l = absurd (omega (arith, l))
taken_less (suc count) (x ∷ xs) zero l = (omega arith, omega arith)
taken_less (suc count) (x ∷ xs) (suc k) l = let p = taken_less count xs k (omega (arith, l)) in let a = p.0 in let b = p.1 in (omega (arith, a), omega (arith, b))

pub field_front : (d index n count : ℕ) (f : ℕ → Content) (rs : List LeafRange) → StandIn d index rs count → All (IsRangeIn d n f) rs → All (IsRangeIn (d + 1) n (λ i. part_of (f i) index)) (take count rs)
field_front d index n count f rs stand h = λ k e l.
    let p = taken_less count rs k l in
    subst (IsRangeIn (d + 1) n (λ i. part_of (f i) index)) (sym (get_or-take count rs k e p.0))
    (step_down d index n f (get_or rs k e) (stand k (get_or rs k e) p.0 (itself_at rs k e p.1)) (h k e p.1))

-- ---- the fields of structs

nth_row : (xs : List (List ℕ)) (fs : List Layout) (k i : ℕ) (a : Layout) → k < length fs → a ≡ get_or fs k a → nth (row_at (columns_of xs fs) i) k ≡ content_at a i
nth_row xs [] k i a l e = absurd (omega (arith, l))
nth_row [] (b ∷ fs) zero i a l e = ap (λ c. content_at c i) (sym e)
nth_row (x ∷ xs) (b ∷ fs) zero i a l e = ap (λ c. content_at c i) (sym e)
nth_row [] (b ∷ fs) (suc k) i a l e = nth_row [] fs k i a (omega (arith, l)) e
nth_row (x ∷ xs) (b ∷ fs) (suc k) i a l e = nth_row xs fs k i a (omega (arith, l)) e

-- the ranges of a field of structs, none of them null
pub field_ranges : (below n k : ℕ) (xs : List (List ℕ)) (fs : List Layout) (a : Layout) (rs : List LeafRange) → HaveLength (columns_of xs fs) n → k < length fs → a ≡ get_or fs k a →
    All (IsRangeIn below n (λ i. part_of (tuple (row_at (columns_of xs fs) i)) k)) rs → AreRangesOf below a rs
field_ranges below n k xs fs a rs fit l e h = λ j r less i within.
    subst (λ c. IsBetween (get_or rs j r).low (get_or rs j r).high (at c (drop below (get_or rs j r).positions.now))) (nth_row xs fs k i a l e)
    (h j r less i (subst (λ m. i < m) (field_length xs fs n k a fit e l) within))
