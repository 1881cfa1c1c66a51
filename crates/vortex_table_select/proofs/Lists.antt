-- Lists that grow by a value each.
use Rattle.std.proofs.Common.{◌≡◌, refl, sym, ap, ◌∙◌, ℕ, zero, suc, ◌+◌, ◌<◌, List, [], ◌∷◌, ◌++◌, length, map, take, drop, get_or, cond, arith, append_assoc, drop-cons, Vec, Global, Option}
use Rattle.std.specs.Prelude.{slice_set}
use Rattle.std.proofs.lemmas.List.{map-set, get_or-map, length-map, length_push, take_more, map-append}
use Rattle.vortex_model.specs.Content.{Raw, raw_null, raw_tuple}
use Rattle.vortex_scalar_value.specs.View.{raw_in, raws_in, raws_from}
use Rattle.vortex_scalar_value.specs.declared.scalar_value.ScalarValue.{ScalarValue}
use Rattle.vortex_arrays_model.specs.Layout.{Valid, is_valid}
use Rattle.vortex_table_select.specs.Lists.{with_each, lists_of, record_values}

pub with_none : (ls : List (List Raw)) → with_each ls [] ≡ ls
with_none [] = refl
with_none (l ∷ ls) = refl

-- one value more goes onto the next list
with_one_more : (ls : List (List Raw)) (rs : List Raw) (k : ℕ) (r : Raw) (d : List Raw) → length rs ≡ k → k < length ls → with_each ls (rs ++ r ∷ []) ≡ slice_set (with_each ls rs) k (get_or (with_each ls rs) k d ++ r ∷ [])
with_one_more [] rs k r d e l = absurd (omega (arith, l))
with_one_more (y ∷ ls) [] zero r d e l = ap (λ m. (y ++ r ∷ []) ∷ m) (with_none ls)
with_one_more (y ∷ ls) [] (suc k) r d e l = absurd (omega (arith, e))
with_one_more (y ∷ ls) (z ∷ rs) zero r d e l = absurd (omega (arith, e))
with_one_more (y ∷ ls) (z ∷ rs) (suc k) r d e l = ap (λ m. (y ++ z ∷ []) ∷ m) (with_one_more ls rs k r d (omega (arith, e)) (omega (arith, l)))

-- a value for each row goes onto the list of the row
with_mapped : (f : ℕ → List Raw) (g : ℕ → Raw) (rows : List ℕ) → with_each (map f rows) (map g rows) ≡ map (λ i. f i ++ g i ∷ []) rows
with_mapped f g [] = refl
with_mapped f g (i ∷ rows) = ap (λ m. (f i ++ g i ∷ []) ∷ m) (with_mapped f g rows)

-- what is in a list that got one value more
module _ (lists next : List (Vec (Option ScalarValue) Global)) (k : ℕ) (list more : Vec (Option ScalarValue) Global) (v : Option ScalarValue) where
  pub one_grown : (old : List (List Raw)) (rs : List Raw) → lists_of lists ≡ with_each old rs → length rs ≡ k → k < length old → k < length lists →
      list ≡ get_or lists k list → next ≡ slice_set lists k more → more.items ≡ list.items ++ v ∷ [] → lists_of next ≡ with_each old (rs ++ raw_in v ∷ [])
  one_grown old rs h n l m is made grown =
      let view : Vec (Option ScalarValue) Global → List Raw = λ w. map raw_in w.items in
      let here : view list ≡ get_or (with_each old rs) k (view list) = ap view is ∙ sym (get_or-map view lists k list (view list) m) ∙ ap (λ ys. get_or ys k (view list)) h in
      let longer : view more ≡ get_or (with_each old rs) k (view list) ++ raw_in v ∷ [] = ap (map raw_in) grown ∙ map-append raw_in list.items (v ∷ []) ∙ ap (λ ys. ys ++ raw_in v ∷ []) here in
      ap lists_of made ∙ map-set view lists k more ∙ (λ j. slice_set (h j) k (longer j)) ∙ sym (with_one_more old rs k (raw_in v) (view list) n l)

pub length-lists_of : (lists : List (Vec (Option ScalarValue) Global)) → length (lists_of lists) ≡ length lists
length-lists_of lists = length-map lists (λ w. map raw_in w.items)

-- there are as many lists as rows
pub as_many : (f : ℕ → List Raw) (rows : List ℕ) (lists : List (Vec (Option ScalarValue) Global)) → lists_of lists ≡ map f rows → length lists ≡ length rows
as_many f rows lists e = sym (length-map lists (λ w. map raw_in w.items)) ∙ ap length e ∙ length-map rows f

-- the lists of the rows, each with one value more
pub all_grown : (f g : ℕ → List Raw) (h : ℕ → Raw) (rows : List ℕ) (old new : List (List Raw)) → old ≡ map f rows → new ≡ with_each old (map h rows) → ((i : ℕ) → f i ++ h i ∷ [] ≡ g i) → new ≡ map g rows
all_grown f g h rows old new e made each = made ∙ ap (λ ls. with_each ls (map h rows)) e ∙ with_mapped f h rows ∙ (λ j. map (λ i. each i j) rows)

-- ---- records of lists

pub records_mapped : (v : Valid) (f : ℕ → List Raw) (rows : List ℕ) → record_values v (map f rows) rows ≡ map (λ i. cond (is_valid v i) (raw_tuple (raws_from (f i))) raw_null) rows
records_mapped v f [] = refl
records_mapped v f (i ∷ rows) = ap (λ rs. cond (is_valid v i) (raw_tuple (raws_from (f i))) raw_null ∷ rs) (records_mapped v f rows)

-- the record of the next list
pub one_record : (v : Valid) (all : List Raw) (values next : List (Option ScalarValue)) (left behind : List (Vec (Option ScalarValue) Global)) (list : Vec (Option ScalarValue) Global) (rows : List ℕ) (i : ℕ) (value : Option ScalarValue) →
    left ≡ list ∷ behind → length values < length rows → i ≡ get_or rows (length values) i → raw_in value ≡ cond (is_valid v i) (raw_tuple (raws_in list.items)) raw_null → next ≡ values ++ value ∷ [] →
    map raw_in values ++ record_values v (lists_of left) (drop (length values) rows) ≡ all → map raw_in next ++ record_values v (lists_of behind) (drop (length next) rows) ≡ all
one_record v all values next left behind list rows i value is l at e made h =
    let one_on : suc (length values) ≡ length values + 1 = omega arith in
    let n : length next ≡ length values + 1 = ap length made ∙ length_push values value in
    let rest : drop (length values) rows ≡ i ∷ drop (length values + 1) rows = drop-cons rows (length values) i l ∙ (λ j. sym at j ∷ drop (one_on j) rows) in
    let these = record_values v (lists_of behind) (drop (length values + 1) rows) in
    let shown : map raw_in values ++ record_values v (lists_of left) (drop (length values) rows) ≡ map raw_in values ++ record_values v (lists_of (list ∷ behind)) (i ∷ drop (length values + 1) rows)
    = λ j. map raw_in values ++ record_values v (lists_of (is j)) (rest j) in
    (λ j. map raw_in (made j) ++ record_values v (lists_of behind) (drop (n j) rows))
    ∙ ap (λ xs. xs ++ these) (map-append raw_in values (value ∷ []))
    ∙ append_assoc (map raw_in values) (raw_in value ∷ []) these
    ∙ ap (λ x. map raw_in values ++ x ∷ these) e
    ∙ sym shown ∙ h

-- one more empty list
pub one_empty : (rows : List ℕ) (k : ℕ) (lists next : List (Vec (Option ScalarValue) Global)) (list : Vec (Option ScalarValue) Global) → k < length rows → list.items ≡ [] → next ≡ lists ++ list ∷ [] →
    lists_of lists ≡ map (λ i. []) (take k rows) → lists_of next ≡ map (λ i. []) (take (k + 1) rows)
one_empty rows k lists next list l empty made h =
    let none : ℕ → List Raw = λ i. [] in
    let view : Vec (Option ScalarValue) Global → List Raw = λ w. map raw_in w.items in
    let longer : map none (take (k + 1) rows) ≡ map none (take k rows) ++ [] ∷ [] = ap (map none) (take_more rows k 0 l) ∙ map-append none (take k rows) (get_or rows k 0 ∷ []) in
    ap lists_of made ∙ map-append view lists (list ∷ []) ∙ (λ j. h j ++ map raw_in (empty j) ∷ []) ∙ sym longer
