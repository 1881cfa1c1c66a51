-- The rows of an answer: what is read at their positions, and which positions those are.
use Rattle.std.proofs.Common.{◌≡◌, refl, sym, ◌∙◌, ap, subst, ℕ, zero, suc, ◌+◌, ◌<◌, List, [], ◌∷◌, ◌++◌, length, drop, map, filter, get_or, Bool, true, false, cond, Option, append_assoc, append-nil, drop-cons, All, arith, IsTrue}
use Rattle.std.specs.List.{range_with_len}
use Rattle.std.proofs.lemmas.Grind.{flat_map-append}
use Rattle.std.proofs.lemmas.List.{length-map, map-append, get_or-map}
use Rattle.std.proofs.lemmas.List.Elements.{All-push}
use Rattle.std.proofs.lemmas.List.FromFn.{length-range_with_len, get_or-range_with_len}
use Rattle.std.proofs.lemmas.Simd.{map-map}
use Rattle.vortex_model.specs.LogicalType.{LogicalType}
use Rattle.vortex_model.specs.Content.{Content, content_of, raw_null}
use Rattle.vortex_model.specs.Valid.{valid}
use Rattle.vortex_model.proofs.Lists.{map_twice}
use Rattle.vortex_model.specs.Laws.{TestsOfValidityAreRight}
use Rattle.vortex_dtype_core.specs.View.{type_of}
use Rattle.vortex_scalar_value.specs.View.{raw_in, content_in}
use Rattle.vortex_scalar_core.specs.Scalar.{scalar_type, scalar_content}
use Rattle.vortex_scalar_core.specs.declared.scalar.Scalar.{Scalar}
use Rattle.vortex_scalar_value.specs.declared.scalar_value.ScalarValue.{ScalarValue}
use Rattle.vortex_arrays_buffer.specs.Bits.{positions_from, positions_of}
use Rattle.vortex_arrays_buffer.proofs.Positions.{positions_within}
use Rattle.vortex_arrays_model.specs.Layout.{Layout, len_of, array_type_of, content_at, rows_of, IsSound}
use Rattle.vortex_arrays_model.proofs.RowsLemmas.{row_count}
use Rattle.vortex_arrays_core.specs.RawRows.{raw_row}
use Rattle.vortex_arrays_core.proofs.RawRowsLemmas.{says, raw_valid}
use Rattle.vortex_stats_bind.specs.Bound.{Bound, Provided, bound_value}
use Rattle.vortex_stats_mask.specs.Wanted.{is_wanted}
use Rattle.vortex_stats_mask.proofs.Truths.{wanted_true}
use Rattle.vortex_stats_select.specs.Wants.{row_among, value_at, wanted_rows}
use Rattle.vortex_table_schema.specs.Cut.{Tree, tree_of, content_cut, raw_cut}
use Rattle.vortex_table_schema.proofs.Cuts.{cut_content_of}
use Rattle.vortex_table_schema.specs.declared.cut.RowProjection.{RowProjection}
use Rattle.vortex_table_select.specs.Lists.{cut_values}
use Rattle.vortex_table_select.specs.Selected.{is_selected, selected_rows, rows_at, rows_in, AreOfType, cut_rows, CanBeCut}
use Rattle.vortex_table_select.specs.declared.selection.Selection.{Selection}

-- ---- rows that are read

-- the contents of values that are read at rows
pub said_cut : (t : Tree) (a : Layout) (rows : List ℕ) (values : List (Option ScalarValue)) → map raw_in values ≡ cut_values t a rows → map content_in values ≡ map (content_cut t) (map (content_at a) rows)
said_cut t a rows values e =
    sym (map-map content_of raw_in values) ∙ ap (map content_of) e ∙ map-map content_of (λ i. raw_cut t (raw_row a i)) rows
    ∙ (λ j. map (λ i. (cut_content_of t (raw_row a i) ∙ ap (content_cut t) (says a i)) j) rows)
    ∙ sym (map-map (content_cut t) (content_at a) rows)

-- each is one of the cut's type
pub cut_valid : TestsOfValidityAreRight → (cut : RowProjection) (a : Layout) (rows : List ℕ) (values : List (Option ScalarValue)) → IsSound a → All (λ i. i < len_of a) rows → CanBeCut cut (array_type_of a) →
    map raw_in values ≡ cut_values (tree_of cut.projection) a rows → All (λ v. IsTrue (valid (type_of cut.dtype) (raw_in v))) values
cut_valid right cut a rows values s within can e k d l =
    let t = tree_of cut.projection in
    let many : length values ≡ length rows = sym (length-map values raw_in) ∙ ap length e ∙ length-map rows (λ i. raw_cut t (raw_row a i)) in
    let inside : k < length rows = subst (λ n. k < n) many l in
    let i = get_or rows k 0 in
    let row = raw_row a i in
    let is : raw_in (get_or values k d) ≡ raw_cut t row
    = sym (get_or-map raw_in values k d raw_null l) ∙ ap (λ rs. get_or rs k raw_null) e ∙ get_or-map (λ n. raw_cut t (raw_row a n)) rows k 0 raw_null inside in
    let held : valid (array_type_of a) row ≡ true = (right (array_type_of a) row).1 (raw_valid a s i (within k 0 inside)) in
    subst (λ r. IsTrue (valid (type_of cut.dtype) r)) (sym is) (can row held)

-- one more value as one of the type
pub one_scalar : (found next : List Scalar) (left behind : List (Option ScalarValue)) (v : Option ScalarValue) (s : Scalar) (all : List Content) → left ≡ v ∷ behind → next ≡ found ++ s ∷ [] → scalar_content s ≡ content_in v →
    map scalar_content found ++ map content_in left ≡ all → map scalar_content next ++ map content_in behind ≡ all
one_scalar found next left behind v s all is made e h =
    ap (λ xs. map scalar_content xs ++ map content_in behind) made
    ∙ ap (λ xs. xs ++ map content_in behind) (map-append scalar_content found (s ∷ []))
    ∙ append_assoc (map scalar_content found) (scalar_content s ∷ []) (map content_in behind)
    ∙ ap (λ x. map scalar_content found ++ x ∷ map content_in behind) e
    ∙ ap (λ xs. map scalar_content found ++ map content_in xs) (sym is) ∙ h

-- the first of the values that are left, and the others
pub first_left : (P : Option ScalarValue → Type 0) (left behind : List (Option ScalarValue)) (v : Option ScalarValue) → left ≡ v ∷ behind → All P left → P v × All P behind
first_left P left behind v e h = let g = subst (All P) e h in (g 0 v (omega arith), λ k d l. g (suc k) d (omega arith))

-- one more scalar of the kind
pub kinds_more : (k : LogicalType) (found new : List Scalar) (s : Scalar) → new ≡ found ++ s ∷ [] → All (λ row. scalar_type row ≡ k) found → scalar_type s ≡ k → All (λ row. scalar_type row ≡ k) new
kinds_more k found new s e h g = subst (λ xs. All (λ row. scalar_type row ≡ k) xs) (sym e) (All-push (λ row. scalar_type row ≡ k) found s h g)

-- ---- selections

-- one selection more
pub rows_in_more : (old new : List Selection) (s : Selection) → new ≡ old ++ s ∷ [] → rows_in new ≡ rows_in old ++ rows_at s
rows_in_more old new s made =
    ap rows_in made ∙ flat_map-append rows_at old (s ∷ []) ∙ ap (λ l. rows_in old ++ l) (append-nil (rows_at s))

pub of_type_more : (k : LogicalType) (old new : List Selection) (s : Selection) → new ≡ old ++ s ∷ [] → AreOfType k old → array_type_of s.array ≡ k → AreOfType k new
of_type_more k old new s made h e = subst (AreOfType k) (sym made) (All-push (λ t. array_type_of t.array ≡ k) old s h e)

-- the rows from a selection on
pub rows_from : (ss : List Selection) (i : ℕ) (s : Selection) → i < length ss → s ≡ get_or ss i s → rows_in (drop i ss) ≡ rows_at s ++ rows_in (drop (i + 1) ss)
rows_from ss i s l e =
    let one_on : suc i ≡ i + 1 = omega arith in
    ap rows_in (drop-cons ss i s l) ∙ (λ j. rows_at (sym e j) ++ rows_in (drop (one_on j) ss))

-- what is read of one selection more, and what the others hold, is all
pub read_more : (cut : RowProjection) (ss : List Selection) (i : ℕ) (s : Selection) (old new all : List Content) → i < length ss → s ≡ get_or ss i s →
    new ≡ old ++ cut_rows cut (rows_at s) → old ++ cut_rows cut (rows_in (drop i ss)) ≡ all → new ++ cut_rows cut (rows_in (drop (i + 1) ss)) ≡ all
read_more cut ss i s old new all l e made h =
    let keep : Content → Content = content_cut (tree_of cut.projection) in
    let rest = cut_rows cut (rows_in (drop (i + 1) ss)) in
    ap (λ xs. xs ++ rest) made
    ∙ append_assoc old (cut_rows cut (rows_at s)) rest
    ∙ ap (λ xs. old ++ xs) (sym (map-append keep (rows_at s) (rows_in (drop (i + 1) ss))) ∙ ap (map keep) (sym (rows_from ss i s l e)))
    ∙ h

-- ---- the positions of all rows

pub range_within : (n : ℕ) → All (λ i. i < n) (range_with_len 0 n)
range_within n k d l =
    let small : k < n = subst (λ m. k < m) (length-range_with_len 0 n) l in
    subst (λ m. m < n) (sym (get_or-range_with_len 0 n k d small)) (omega arith)

range_last : (s n : ℕ) → range_with_len s (suc n) ≡ range_with_len s n ++ (s + n) ∷ []
range_last s zero = ap (λ m. m ∷ []) (let e : s ≡ s + 0 = omega arith in e)
range_last s (suc n) = ap (λ l. s ∷ l) (range_last (s + 1) n ∙ ap (λ m. range_with_len (s + 1) n ++ m ∷ []) (let e : s + 1 + n ≡ s + suc n = omega arith in e))

-- one position more
pub range_more : (n : ℕ) → range_with_len 0 (n + 1) ≡ range_with_len 0 n ++ n ∷ []
range_more n = ap (range_with_len 0) (let e : n + 1 ≡ suc n = omega arith in e) ∙ range_last 0 n ∙ ap (λ m. range_with_len 0 n ++ m ∷ []) (let e : 0 + n ≡ n = omega arith in e)

pub ruleset all_rows = (range_more)

-- ---- the mask of a predicate

-- the positions of the rows that p holds of
keeps_one : (f : ℕ → Content) (p : Content → Bool) (s : ℕ) (mask : List Bool) (rows : List Content) (b : Bool) → map f (positions_from (suc s) mask) ≡ filter p rows →
    map f (positions_from s (b ∷ mask)) ≡ cond b (f s ∷ filter p rows) (filter p rows)
keeps_one f p s mask rows true h = ap (λ xs. f s ∷ xs) h
keeps_one f p s mask rows false h = h

mask_keeps : (f : ℕ → Content) (p : Content → Bool) (s n : ℕ) → map f (positions_from s (map p (map f (range_with_len s n)))) ≡ filter p (map f (range_with_len s n))
mask_keeps f p s zero = refl
mask_keeps f p s (suc n) =
    let rows = map f (range_with_len (s + 1) n) in let one : suc s ≡ s + 1 = omega arith in
    keeps_one f p s (map p rows) rows (p (f s)) (ap (λ m. map f (positions_from m (map p rows))) one ∙ mask_keeps f p (s + 1) n)

module _ (predicate : Bound) (a : Layout) (rows : List Provided) (mask : List Bool) (same : rows ≡ map (row_among 1) (rows_of a)) (e : mask ≡ wanted_rows true predicate rows) where
  mask_is : mask ≡ map (is_selected predicate) (rows_of a)
  mask_is =
      e ∙ ap (wanted_rows true predicate) same
      ∙ map_twice (λ row. is_wanted true (value_at predicate row)) (row_among 1) (rows_of a)
      ∙ (λ i. map (λ row. sym (wanted_true (bound_value predicate row)) i) (rows_of a))

  pub mask_within : All (λ i. i < len_of a) (positions_of mask)
  mask_within =
      subst (λ n. All (λ i. i < n) (positions_of mask)) (ap length mask_is ∙ length-map (rows_of a) (is_selected predicate) ∙ row_count a)
      (positions_within mask)

  pub mask_selects : map (content_at a) (positions_of mask) ≡ selected_rows predicate (rows_of a)
  mask_selects = ap (λ m. map (content_at a) (positions_of m)) mask_is ∙ mask_keeps (content_at a) (is_selected predicate) 0 (len_of a)

  -- no row is selected
  pub none_selected : (found : List ℕ) → found ≡ positions_of mask → length found ≡ 0 → selected_rows predicate (rows_of a) ≡ []
  none_selected found made none = sym mask_selects ∙ ap (map (content_at a)) (sym made) ∙ of_none found none
    where
      of_none : (is : List ℕ) → length is ≡ 0 → map (content_at a) is ≡ []
      of_none [] h = refl
      of_none (i ∷ is) h = absurd (omega (arith, h))

pub ruleset masked = (mask_within, mask_selects, none_selected)
