-- Plain arrays that views and buffers have room for.
use Rattle.std.proofs.Common.{◌≡◌, ◌<◌, ◌≤◌, ◌+◌, ◌*◌, ℕ, zero, suc, Bool, true, false, cond, leb, List, [], ◌∷◌, length, map, take, drop, get_or, Option, Some, None, IfSome, refl, sym, ap, subst, ◌∙◌, arith, inl, inr}
use Rattle.std.specs.List.{flat_map, range_with_len, All}
use Rattle.std.specs.Option.{is_some}
use Rattle.std.proofs.lemmas.Bool.Decides.{leb_tells}
use Rattle.std.proofs.lemmas.List.{length-take, drop_more, drop_all}
use Rattle.std.proofs.lemmas.Option.{IfSome_then}
use Rattle.vortex_model.specs.LogicalType.{LogicalType}
use Rattle.vortex_model.specs.Content.{Content, null, tuple, Contents, nothing, first}
use Rattle.vortex_arrays_view.specs.Views.{size_of, index_of, offset_of, inlined_of, value_of}
use Rattle.vortex_arrays_model.specs.Layout.{Layout, bools, numbers, strings, fixed_lists, list_views, records, Strings, texts, byte_strings, Columns, no_columns, column, len_of, content_at, is_valid, row_at, rows_of, span, number_in, string_content, IsSound, HaveLength}
use Rattle.vortex_arrays_model.specs.Canonical.{listed, items_of}
use Rattle.vortex_arrays_model.specs.Parts.{columns_of}
use Rattle.vortex_arrays_model.proofs.PicksLemmas.{field_size}
use Rattle.vortex_arrays_core.proofs.RawRowsLemmas.{size_without_names}
use Rattle.vortex_arrays_builder.specs.Types.{IsPlainLayout, ArePlainLayouts}
use Rattle.vortex_arrays_builder.specs.TooLarge.{AreTooLarge}
use Rattle.vortex_arrays_concat.specs.FixedLists.{elements_in}
use Rattle.vortex_arrays_concat.specs.Room.{string_weight, weight, weight_of_all, total_weight, views_weight, array_weight, columns_weight, fields_weight}
use Rattle.vortex_arrays_concat.proofs.RoomLemmas.{weight_on, have_room}

-- ---- sums over rows

abbrev upto : (ℕ → ℕ) → ℕ → ℕ → ℕ
upto f i zero = 0
upto f i (suc n) = f i + upto f (i + 1) n

rows_weight : (f : ℕ → Content) (i n : ℕ) → total_weight (map f (range_with_len i n)) ≡ upto (λ j. weight (f j)) i n
rows_weight f i zero = refl
rows_weight f i (suc n) = ap (λ m. weight (f i) + m) (rows_weight f (i + 1) n)

span_weight : (f : ℕ → Content) (i n : ℕ) → weight_of_all (span f i n) ≡ upto (λ j. weight (f j)) i n
span_weight f i zero = refl
span_weight f i (suc n) = ap (λ m. weight (f i) + m) (span_weight f (i + 1) n)

upto_on : (f : ℕ → ℕ) (i m n : ℕ) → upto f i (m + n) ≡ upto f i m + upto f (i + m) n
upto_on f i zero n =
    ap (upto f i) (let e : 0 + n ≡ n = omega arith in e) ∙ ap (λ j. upto f j n) (let e : i ≡ i + 0 = omega arith in e) ∙ (let e : upto f (i + 0) n ≡ 0 + upto f (i + 0) n = omega arith in e)
upto_on f i (suc m) n =
    let r = upto_on f (i + 1) m n in
    let s : upto f (i + 1 + m) n ≡ upto f (i + suc m) n = ap (λ j. upto f j n) (let e : i + 1 + m ≡ i + suc m = omega arith in e) in
    ap (upto f i) (let e : suc m + n ≡ suc (m + n) = omega arith in e) ∙ (let e : f i + upto f (i + 1) (m + n) ≡ f i + upto f (i + 1) m + upto f (i + suc m) n = omega (arith, r, s) in e)

upto_less : (f g : ℕ → ℕ) → ((i : ℕ) → f i ≤ g i) → (i n : ℕ) → upto f i n ≤ upto g i n
upto_less f g h i zero = omega arith
upto_less f g h i (suc n) = let m = h i in let r = upto_less f g h (i + 1) n in omega (arith, m, r)

upto_both : (f g : ℕ → ℕ) (i n : ℕ) → upto (λ j. f j + g j) i n ≡ upto f i n + upto g i n
upto_both f g i zero = refl
upto_both f g i (suc n) = let r = upto_both f g (i + 1) n in omega (arith, r)

upto_none : (i n : ℕ) → upto (λ j. 0) i n ≡ 0
upto_none i zero = refl
upto_none i (suc n) = let r = upto_none (i + 1) n in omega (arith, r)

-- ---- rows that can be null

where_valid : (b : Bool) (c : Content) → weight (cond b c null) ≤ weight c
where_valid true c = omega arith
where_valid false c = omega arith

-- ---- strings and bytes

value_shorter : (view : List ℕ) (buffers : List (List ℕ)) → length (value_of view buffers) ≤ size_of view
value_shorter view buffers = either (leb (size_of view) 12)
  where
    either : (t : Bool) → length (cond t (inlined_of view) (take (size_of view) (drop (offset_of view) (get_or buffers (index_of view) [])))) ≤ size_of view
    either true = let e = length-take (size_of view) (drop 4 view) in omega (arith, e)
    either false = let e = length-take (size_of view) (drop (offset_of view) (get_or buffers (index_of view) [])) in omega (arith, e)

weight_less : (m n : ℕ) → m ≤ n → string_weight m ≤ string_weight n
weight_less m n h = elim (leb_tells n 2147483647) [
  | inl y ↦ elim (leb_tells m 2147483647) [
    | inl x ↦ subst (λ (b : Bool). cond b 1 4294967297 ≤ string_weight n) (sym x.0) (subst (λ (b : Bool). 1 ≤ cond b 1 4294967297) (sym y.0) (omega arith))
    | inr x ↦ absurd (let l = x.1 in let k = y.1 in omega (arith, l, k, h))
  ]
  | inr y ↦ subst (λ (b : Bool). string_weight m ≤ cond b 1 4294967297) (sym y.0) (elim (leb_tells m 2147483647) [
    | inl x ↦ subst (λ (b : Bool). cond b 1 4294967297 ≤ 4294967297) (sym x.0) (omega arith)
    | inr x ↦ subst (λ (b : Bool). cond b 1 4294967297 ≤ 4294967297) (sym x.0) (omega arith)
  ])
]

string_row : (s : Strings) (b : Bool) (view : List ℕ) (buffers : List (List ℕ)) → weight (cond b (string_content s (value_of view buffers)) null) ≤ string_weight (size_of view)
string_row texts true view buffers = weight_less (length (value_of view buffers)) (size_of view) (value_shorter view buffers)
string_row byte_strings true view buffers = weight_less (length (value_of view buffers)) (size_of view) (value_shorter view buffers)
string_row s false view buffers = omega arith

views_rows : (f : ℕ → ℕ) (i : ℕ) (views : List (List ℕ)) → ((j : ℕ) → j < length views → f (i + j) ≤ string_weight (size_of (get_or views j []))) → upto f i (length views) ≤ views_weight views
views_rows f i [] h = omega arith
views_rows f i (view ∷ views) h =
    let m : f i ≤ string_weight (size_of view) = subst (λ j. f j ≤ string_weight (size_of view)) (let e : i + 0 ≡ i = omega arith in e) (h 0 (omega arith)) in
    let r = views_rows f (i + 1) views (λ j l. subst (λ k. f k ≤ string_weight (size_of (get_or views j []))) (let e : i + suc j ≡ i + 1 + j = omega arith in e) (h (suc j) (omega (arith, l)))) in
    omega (arith, m, r)

-- ---- lists

blocks : (f g : ℕ → ℕ) (s : ℕ) → ((i : ℕ) → f i ≤ upto g (i * s) s) → (i n : ℕ) → upto f i n ≤ upto g (i * s) (n * s)
blocks f g s h i zero = omega arith
blocks f g s h i (suc n) =
    let m = h i in let r = blocks f g s h (i + 1) n in
    let e = upto_on g (i * s) s (n * s) in
    let t : upto g ((i + 1) * s) (n * s) ≡ upto g (i * s + s) (n * s) = ap (λ j. upto g j (n * s)) (let q : (i + 1) * s ≡ i * s + s = omega arith in q) in
    let u : upto g (i * s) (suc n * s) ≡ upto g (i * s) (s + n * s) = ap (upto g (i * s)) (let q : suc n * s ≡ s + n * s = omega arith in q) in
    omega (arith, m, r, e, t, u)

fixed_row : (b : Bool) (f : ℕ → Content) (i s : ℕ) → weight (cond b (tuple (span f (i * s) s)) null) ≤ upto (λ j. weight (f j)) (i * s) s
fixed_row b f i s = let m = where_valid b (tuple (span f (i * s) s)) in let e = span_weight f (i * s) s in omega (arith, m, e)

listed_weight : (cs : Contents) → total_weight (listed cs) ≡ weight_of_all cs
listed_weight nothing = refl
listed_weight (first c cs) = ap (λ n. weight c + n) (listed_weight cs)

list_row : (b : Bool) (cs : Contents) → weight (cond b (tuple cs) null) ≤ total_weight (items_of (cond b (tuple cs) null))
list_row true cs = let e = listed_weight cs in omega (arith, e)
list_row false cs = omega arith

lists_weight : (f : ℕ → Content) → ((i : ℕ) → weight (f i) ≤ total_weight (items_of (f i))) → (is : List ℕ) → total_weight (map f is) ≤ total_weight (flat_map items_of (map f is))
lists_weight f h [] = omega arith
lists_weight f h (i ∷ is) = let e = weight_on (items_of (f i)) (flat_map items_of (map f is)) in let m = h i in let r = lists_weight f h is in omega (arith, e, m, r)

-- ---- arrays

abbrev rows_in : Layout → ℕ
rows_in a = upto (λ i. weight (content_at a i)) 0 (len_of a)

total_rows : (a : Layout) → total_weight (rows_of a) ≡ rows_in a
total_rows a = rows_weight (content_at a) 0 (len_of a)

no_strings : (f : ℕ → Content) → ((i : ℕ) → weight (f i) ≤ 0) → (n : ℕ) → upto (λ i. weight (f i)) 0 n ≤ 0
no_strings f h n = let m = upto_less (λ i. weight (f i)) (λ i. 0) h 0 n in let e = upto_none 0 n in omega (arith, m, e)

mutual
  pub rows_less : (a : Layout) → IsSound a → IsPlainLayout a → rows_in a ≤ array_weight a
  rows_less (bools bs v) s p = no_strings (content_at (bools bs v)) (λ i. where_valid (is_valid v i) _) (length bs)
  rows_less (numbers k zs v) s p = no_strings (content_at (numbers k zs v)) (λ i. where_valid (is_valid v i) _) (length zs)
  rows_less (strings t views buffers v) s p =
      views_rows (λ i. weight (content_at (strings t views buffers v) i)) 0 views
      (λ j l. subst (λ i. weight (content_at (strings t views buffers v) i) ≤ string_weight (size_of (get_or views j []))) (let e : j ≡ 0 + j = omega arith in e) (string_row t (is_valid v j) (get_or views j []) buffers))
  rows_less (fixed_lists e m n v) s p =
      let g : ℕ → ℕ = λ j. weight (content_at e j) in
      let rows : upto (λ i. weight (content_at (fixed_lists e m n v) i)) 0 n ≤ upto g (0 * m) (n * m)
      = blocks (λ i. weight (content_at (fixed_lists e m n v) i)) g m (λ i. fixed_row (is_valid v i) (content_at e) i m) 0 n in
      let all : upto g (0 * m) (n * m) ≡ rows_in e = ap (λ j. upto g j (n * m)) (let q : 0 * m ≡ 0 = omega arith in q) ∙ ap (upto g 0) (sym (s.1)) in
      let inside = rows_less e s.0 p in
      omega (arith, rows, all, inside)
  rows_less (list_views e o z f v) s p =
      let laid = p.1 in
      let same : laid.elements ≡ e = sym (ap elements_in laid.made) in
      let items : rows_of e ≡ flat_map items_of (rows_of (list_views e o z f v)) = ap rows_of (sym same) ∙ laid.canonical.end_to_end in
      let rows = lists_weight (content_at (list_views e o z f v)) (λ i. list_row (is_valid v i) (span (content_at e) (number_in (content_at o i)) (number_in (content_at z i)))) (range_with_len 0 (len_of o)) in
      let own = total_rows (list_views e o z f v) in
      let there = ap total_weight items in
      let below = total_rows e in
      let inside = rows_less e s.0 p.0 in
      omega (arith, rows, own, there, below, inside)
  rows_less (records cs n v) s p =
      let rows = upto_less (λ i. weight (content_at (records cs n v) i)) (λ i. weight_of_all (row_at cs i)) (λ i. where_valid (is_valid v i) (tuple (row_at cs i))) 0 n in
      let inside = columns_less cs n s.0 p in
      omega (arith, rows, inside)
  rows_less a s p = absurd p

  columns_less : (cs : Columns) (n : ℕ) → HaveLength cs n → ArePlainLayouts cs → upto (λ i. weight_of_all (row_at cs i)) 0 n ≤ columns_weight cs
  columns_less no_columns n s p = let e = upto_none 0 n in omega (arith, e)
  columns_less (column x a cs) n s p =
      let both = upto_both (λ i. weight (content_at a i)) (λ i. weight_of_all (row_at cs i)) 0 n in
      let here = rows_less a s.0 p.0 in
      let many = ap (upto (λ i. weight (content_at a i)) 0) (s.1) in
      let rest = columns_less cs n s.2 p.1 in
      omega (arith, both, here, many, rest)

pub plain_fits : (k : LogicalType) (a : Layout) → IsSound a → IsPlainLayout a → array_weight a ≤ 4294967296 → ¬ AreTooLarge k (rows_of a)
plain_fits k a s p h = have_room k (rows_of a) (let e = total_rows a in let m = rows_less a s p in omega (arith, e, m, h))

-- ---- one more value, and one more column

fields_columns : (ns : List (List ℕ)) (fs : List Layout) → fields_weight fs ≡ columns_weight (columns_of ns fs)
fields_columns ns [] = refl
fields_columns [] (a ∷ fs) = ap (λ n. array_weight a + n) (fields_columns [] fs)
fields_columns (x ∷ ns) (a ∷ fs) = ap (λ n. array_weight a + n) (fields_columns ns fs)

-- what the fields leave is what the columns leave
pub columns_left : (ns : List (List ℕ)) (fs : List Layout) (left : ℕ) (o : Option ℕ) → IfSome o (λ rest. fields_weight fs + rest ≤ left) → IfSome o (λ rest. columns_weight (columns_of ns fs) + rest ≤ left)
columns_left ns fs left o h = IfSome_then o h (λ rest. subst (λ n. n + rest ≤ left) (fields_columns ns fs))

pub ruleset columns = (columns_left, size_without_names)

-- what the first fields took, of a number of buffers
abbrev pub FieldsTook : List Layout → ℕ → ℕ → ℕ → Type 0
FieldsTook fs i rest left = fields_weight fs + rest ≤ left + fields_weight (drop i fs)

pub fields_none : (fs : List Layout) (left : ℕ) → FieldsTook fs 0 left left
fields_none fs left = omega arith

pub fields_more : (fs : List Layout) (i rest fewer left : ℕ) (a : Layout) → FieldsTook fs i rest left → i < length fs → a ≡ get_or fs i a → array_weight a + fewer ≤ rest → FieldsTook fs (i + 1) fewer left
fields_more fs i rest fewer left a h l e m = let s : fields_weight (drop i fs) ≡ array_weight a + fields_weight (drop (i + 1) fs) = ap fields_weight (drop_more fs i a l ∙ ap (λ x. x ∷ drop (i + 1) fs) (sym e)) in omega (arith, h, m, s)

pub fields_all : (fs : List Layout) (i rest left : ℕ) → FieldsTook fs i rest left → length fs ≤ i → fields_weight fs + rest ≤ left
fields_all fs i rest left h l = let none : fields_weight (drop i fs) ≡ 0 = ap fields_weight (drop_all i fs l) in omega (arith, h, none)

pub ruleset fields = (fields_none, fields_more, fields_all, field_size)

abbrev pub ViewsTook : List (List ℕ) → ℕ → ℕ → ℕ → Type 0
ViewsTook views i rest left = views_weight views + rest ≤ left + views_weight (drop i views)

pub views_none : (views : List (List ℕ)) (left : ℕ) → ViewsTook views 0 left left
views_none views left = omega arith

short_weight : (n : ℕ) → n ≤ 2147483647 → string_weight n ≡ 1
short_weight n l = elim (leb_tells n 2147483647) [
  | inl y ↦ ap (λ (b : Bool). cond b 1 4294967297) y.0
  | inr y ↦ absurd (let m = y.1 in omega (arith, l, m))
]

pub views_more : (views : List (List ℕ)) (i rest fewer left : ℕ) (view : List ℕ) → ViewsTook views i rest left → i < length views → view ≡ get_or views i view → size_of view ≤ 2147483647 → fewer + 1 ≡ rest → ViewsTook views (i + 1) fewer left
views_more views i rest fewer left view h l e short m =
    let s : views_weight (drop i views) ≡ string_weight (size_of view) + views_weight (drop (i + 1) views) = ap views_weight (drop_more views i view l ∙ ap (λ x. x ∷ drop (i + 1) views) (sym e)) in
    let one = short_weight (size_of view) short in omega (arith, h, m, s, one)

pub views_all : (views : List (List ℕ)) (i rest left : ℕ) → ViewsTook views i rest left → length views ≤ i → views_weight views + rest ≤ left
views_all views i rest left h l = let none : views_weight (drop i views) ≡ 0 = ap views_weight (drop_all i views l) in omega (arith, h, none)

pub ruleset views = (views_none, views_more, views_all)

pub left_fits : (k : LogicalType) (a : Layout) (o : Option ℕ) → IsSound a → IsPlainLayout a → IfSome o (λ rest. array_weight a + rest ≤ 4294967296) → is_some o ≡ true → ¬ AreTooLarge k (rows_of a)
left_fits k a None s p h e = absurd (cc e)
left_fits k a (Some rest) s p h e = plain_fits k a s p (omega (arith, h))
