-- Struct and list arrays from the arrays of their fields and elements.
use Rattle.std.proofs.Common.{◌≡◌, ◌<◌, ◌≤◌, ◌+◌, ◌*◌, ℕ, zero, suc, ℤ, pos, Bool, true, false, cond, List, [], ◌∷◌, ◌++◌, length, get_or, take, drop, map, Option, Some, None, is_some, option_map, unwrap_or, Vec, Global, refl, sym, ap, subst, ◌∙◌, arith, append_assoc, append-nil}
use Rattle.std.specs.List.{flat_map, sum_by, All}
use Rattle.std.specs.declared.boxed.Box.{Box}
use Rattle.std.proofs.lemmas.Grind.{flat_map-append}
use Rattle.std.proofs.lemmas.List.{length-map, length-append, get_or-map, take_more, take_all}
use Rattle.std.proofs.lemmas.List.Concat.{get_or-flat_map, length-flat_map}
use Rattle.std.proofs.lemmas.List.Folds.{length-flat_map-take}
use Rattle.std.proofs.lemmas.List.Sums.{sum_by-cons}
use Rattle.vortex_model.specs.LogicalType.{LogicalType, Nullability, list, fixed_list, struct, Fields, no_fields, field, IntKind, u64}
use Rattle.vortex_model.specs.Content.{integer, Raw, raw_null, raw_tuple, Raws, raw_first}
use Rattle.vortex_model.specs.Valid.{InRange}
use Rattle.vortex_dtype_core.specs.View.{type_of, fields_of}
use Rattle.vortex_dtype_core.specs.declared.struct_fields.StructField.{StructField}
use Rattle.vortex_dtype_fields.specs.Records.{names_of}
use Rattle.vortex_scalar_value.specs.View.{raws_from}
use Rattle.vortex_arrays_model.specs.Layout as layout
use Rattle.vortex_arrays_model.specs.Layout.{Layout, numbers, fixed_lists, list_views, records, required, Valid, len_of, array_type_of, content_at, is_valid, number_in, IsSound, IsView, AreEndToEnd, HasLength, HaveLength}
use Rattle.vortex_arrays_model.specs.Canonical.{counts}
use Rattle.vortex_arrays_model.specs.Parts as parts
use Rattle.vortex_arrays_core.specs.RawRows.{raw_row, raw_span, raw_fields}
use Rattle.vortex_table_columns.specs.Cells.{cell_raw, MarksCells, IsColumn}
use Rattle.vortex_table_columns.specs.Columns.{column_type, cells_of}
use Rattle.vortex_table_columns.specs.Nested.{tuples, lists, sized_lists, no_columns, column_of, columns_of, tuple_of, tuple_or_null, first_of, rest_of, items_in, Holds, HaveFields, IsOf, AreOf, AreArrays, HaveInside, AreLists, AreSizedLists, StandEndToEnd}
use Rattle.vortex_table_columns.specs.declared.column.ColumnBuilder.{ColumnBuilder}
use Rattle.vortex_table_columns.specs.declared.nested.NestedBuilder as nested
use Rattle.vortex_table_columns.specs.declared.nested.NestedBuilder.{NestedBuilder}
use Rattle.vortex_table_columns.proofs.NestedLemmas.{column_of-Leaf, column_of-Records, column_of-Lists, column_of-FixedLists, next_field}

-- ---- an array for each field

-- the columns that are left are those of the fields after the made arrays
abbrev pub ArraysLeft : List NestedBuilder → List StructField → List NestedBuilder → List Layout → Type 0
ArraysLeft all fs left made = (rows : List (List Raw)) → HaveFields (columns_of all) (fields_of fs) rows
    → (inner : List (List Raw)) × HaveFields (columns_of left) (fields_of (drop (length made) fs)) inner
    × ((more : List Layout) → AreArrays (fields_of (drop (length made) fs)) inner more → AreArrays (fields_of fs) rows (made ++ more))

pub arrays_none : (all : List NestedBuilder) (fs : List StructField) → ArraysLeft all fs all []
arrays_none all fs rows h = (rows, h, λ more a. a)

-- the next column is of the type of the next field
pub next_is_of : (all : List NestedBuilder) (fs : List StructField) (c : NestedBuilder) (left : List NestedBuilder) (made : List Layout) (f : StructField) → ArraysLeft all fs (c ∷ left) made → length made < length fs
    → f ≡ get_or fs (length made) f → (rows : List (List Raw)) → HaveFields (columns_of all) (fields_of fs) rows → (rs : List Raw) × Holds (column_of c) (type_of f.dtype) rs
next_is_of all fs c left made f h l is rows held =
    let now = h rows held in
    let here = subst (λ gs. HaveFields (columns_of (c ∷ left)) gs now.0) (next_field fs (length made) f l is) now.1 in
    (map first_of now.0, here.1)

pub array_made : (all : List NestedBuilder) (fs : List StructField) (c : NestedBuilder) (left : List NestedBuilder) (made new : List Layout) (a : Layout) (f : StructField) → ArraysLeft all fs (c ∷ left) made → length made < length fs
    → f ≡ get_or fs (length made) f → new ≡ made ++ a ∷ [] → ((rs : List Raw) → Holds (column_of c) (type_of f.dtype) rs → IsColumn (type_of f.dtype) rs a) → ArraysLeft all fs left new
array_made all fs c left made new a f h l is grown column rows held =
    let now = h rows held in
    let opened = next_field fs (length made) f l is in
    let here = subst (λ gs. HaveFields (columns_of (c ∷ left)) gs now.0) opened now.1 in
    let many : length new ≡ length made + 1 = ap length grown ∙ length-append made (a ∷ []) in (
      map rest_of now.0,
      subst (λ i. HaveFields (columns_of left) (fields_of (drop i fs)) (map rest_of now.0)) (sym many) here.2,
      λ more rest.
          subst (λ xs. AreArrays (fields_of fs) rows (xs ++ more)) (sym grown)
          (subst (AreArrays (fields_of fs) rows) (sym (append_assoc made (a ∷ []) more))
          (now.2 (a ∷ more) (subst (λ gs. AreArrays gs now.0 (a ∷ more)) (sym opened)
          (here.0, column (map first_of now.0) here.1, subst (λ i. AreArrays (fields_of (drop i fs)) (map rest_of now.0) more) many rest)))),
    )

no_arrays : (gs : Fields) (rows : List (List Raw)) → HaveFields no_columns gs rows → AreArrays gs rows []
no_arrays no_fields rows h = h
no_arrays (field x k fs) rows h = absurd h

pub arrays_all : (all : List NestedBuilder) (fs : List StructField) (made : List Layout) → ArraysLeft all fs [] made → (rows : List (List Raw)) → HaveFields (columns_of all) (fields_of fs) rows → AreArrays (fields_of fs) rows made
arrays_all all fs made h rows held =
    let now = h rows held in
    subst (AreArrays (fields_of fs) rows) (append-nil made) (now.2 [] (no_arrays (fields_of (drop (length made) fs)) now.0 now.1))

-- ---- struct arrays

pub names_many : (fs : Fields) (rows : List (List Raw)) (arrays : List Layout) → AreArrays fs rows arrays → length (names_of fs) ≡ length arrays
names_many no_fields rows [] a = refl
names_many (field x k fs) rows (b ∷ arrays) a = ap suc (names_many fs (map rest_of rows) arrays a.2)
names_many no_fields rows (b ∷ arrays) a = absurd a
names_many (field x k fs) rows [] a = absurd a

have_length : (n : ℕ) (fs : Fields) (rows : List (List Raw)) (arrays : List Layout) → AreArrays fs rows arrays → length rows ≡ n → HaveLength (parts.columns_of (names_of fs) arrays) n
have_length n no_fields rows [] a e = tt
have_length n (field x k fs) rows (b ∷ arrays) a e = (a.1.sound, a.1.len ∙ length-map rows first_of ∙ e, have_length n fs (map rest_of rows) arrays a.2 (length-map rows rest_of ∙ e))
have_length n no_fields rows (b ∷ arrays) a e = absurd a
have_length n (field x k fs) rows [] a e = absurd a

have_fields : (fs : Fields) (rows : List (List Raw)) (arrays : List Layout) → AreArrays fs rows arrays → layout.fields_of (parts.columns_of (names_of fs) arrays) ≡ fs
have_fields no_fields rows [] a = refl
have_fields (field x k fs) rows (b ∷ arrays) a =
    let here : array_type_of b ≡ k = a.1.kind in
    let rest = have_fields fs (map rest_of rows) arrays a.2 in
    λ t. field x (here t) (rest t)
have_fields no_fields rows (b ∷ arrays) a = absurd a
have_fields (field x k fs) rows [] a = absurd a

have_row : (fs : Fields) (rows : List (List Raw)) (arrays : List Layout) → AreArrays fs rows arrays → (i : ℕ) → i < length rows → raw_fields (parts.columns_of (names_of fs) arrays) i ≡ raws_from (get_or rows i [])
have_row no_fields rows [] a i l = ap raws_from (sym (a i [] l))
have_row (field x k fs) rows (b ∷ arrays) a i l =
    let here : raw_row b i ≡ first_of (get_or rows i []) = a.1.rows i (subst (λ m. i < m) (sym (length-map rows first_of)) l) ∙ get_or-map first_of rows i [] raw_null l in
    let rest : raw_fields (parts.columns_of (names_of fs) arrays) i ≡ raws_from (rest_of (get_or rows i [])) =
    have_row fs (map rest_of rows) arrays a.2 i (subst (λ m. i < m) (sym (length-map rows rest_of)) l) ∙ ap raws_from (get_or-map rest_of rows i [] [] l) in
    (λ t. raw_first (here t) (rest t)) ∙ ap raws_from (sym (a.0 i [] l))
have_row no_fields rows (b ∷ arrays) a i l = absurd a
have_row (field x k fs) rows [] a i l = absurd a

abbrev marks_of : List (Bool × List Raw) → List Bool
marks_of rows = map (λ (r : Bool × List Raw). r.0) rows

abbrev pub insides : List (Bool × List Raw) → List (List Raw)
insides rows = map (λ (r : Bool × List Raw). r.1) rows

module _ (n : Nullability) (present : List (Option (Unit {0}))) (v : Valid) (rows : List (Bool × List Raw)) (marks : MarksCells n present v) (e : map is_some present ≡ marks_of rows) where
  abbrev nothing : Bool × List Raw
  nothing = (false, [])

  many : length present ≡ length rows
  many = sym (length-map present is_some) ∙ ap length e ∙ length-map rows (λ (r : Bool × List Raw). r.0)

  bit : (i : ℕ) → i < length rows → is_valid v i ≡ (get_or rows i nothing).0
  bit i l =
      let m : i < length present = subst (λ x. i < x) (sym many) l in
      marks.bits i m ∙ sym (get_or-map is_some present i None false m) ∙ ap (λ ys. get_or ys i false) e ∙ get_or-map (λ (r : Bool × List Raw). r.0) rows i nothing false l

  row_is : (i : ℕ) (s : Raws) → i < length rows → s ≡ raws_from (get_or rows i nothing).1 → cond (is_valid v i) (raw_tuple s) raw_null ≡ get_or (map tuple_or_null rows) i raw_null
  row_is i s l same =
      let there = bit i l in
      (λ t. cond (there t) (raw_tuple (same t)) raw_null) ∙ sym (get_or-map tuple_or_null rows i nothing raw_null l)

  within : (i : ℕ) → i < length (map tuple_or_null rows) → i < length rows
  within i l = subst (λ m. i < m) (length-map rows tuple_or_null) l

  pub records_column : (fs : Fields) (arrays : List Layout) → AreArrays fs (insides rows) arrays → IsColumn (struct fs n) (map tuple_or_null rows) (records (parts.columns_of (names_of fs) arrays) (length present) v)
  records_column fs arrays a = record {
    sound = (have_length (length present) fs (insides rows) arrays a (length-map rows (λ (r : Bool × List Raw). r.1) ∙ sym many), marks.fits);
    kind = (let same = have_fields fs (insides rows) arrays a in λ t. struct (same t) (marks.nullability t));
    len = many ∙ sym (length-map rows tuple_or_null);
    rows = λ i l.
        let m : i < length rows = within i l in
        row_is i (raw_fields (parts.columns_of (names_of fs) arrays) i) m
        (have_row fs (insides rows) arrays a i (subst (λ x. i < x) (sym (length-map rows (λ (r : Bool × List Raw). r.1))) m)
        ∙ ap raws_from (get_or-map (λ (r : Bool × List Raw). r.1) rows i nothing [] m));
  }

  -- ---- fixed-size lists

  by_rows : (i m : ℕ) → m + i * m ≡ suc i * m
  by_rows i m = omega arith

  begins : (m : ℕ) (rs : List (Bool × List Raw)) (i : ℕ) → All (λ (r : Bool × List Raw). length r.1 ≡ m) rs → i ≤ length rs → length (flat_map (λ (r : Bool × List Raw). r.1) (take i rs)) ≡ i * m
  begins m rs zero h l = let e : 0 ≡ 0 * m = omega arith in e
  begins m [] (suc i) h l = absurd (omega arith)
  begins m (r ∷ rs) (suc i) h l =
      let rest = begins m rs i (λ j d b. h (suc j) d (omega arith)) (omega (arith, l)) in
      length-append r.1 (flat_map (λ (q : Bool × List Raw). q.1) (take i rs)) ∙ (λ j. h 0 nothing (omega arith) j + rest j) ∙ by_rows i m

-- raw values one after another
spanned : (f : ℕ → Raw) (xs : List Raw) (start : ℕ) → ((j : ℕ) → j < length xs → f (start + j) ≡ get_or xs j raw_null) → raw_span f start (length xs) ≡ raws_from xs
spanned f [] start h = refl
spanned f (x ∷ xs) start h =
    let here : f start ≡ x = ap f (let e : start ≡ start + 0 = omega arith in e) ∙ h 0 (omega arith) in
    let rest = spanned f xs (start + 1) (λ j l. ap f (let e : start + 1 + j ≡ start + suc j = omega arith in e) ∙ h (suc j) (omega (arith, l))) in
    λ i. raw_first (here i) (rest i)

-- the items of a row among those of all
item_at : {X : Type 0} (k : LogicalType) (f : X → List Raw) (rows : List X) (d : X) (e : Layout) (i j : ℕ) → IsColumn k (flat_map f rows) e → i < length rows → j < length (f (get_or rows i d))
    → raw_row e (length (flat_map f (take i rows)) + j) ≡ get_or (f (get_or rows i d)) j raw_null
item_at k f rows d e i j p l m =
    let room = length-flat_map-take f rows i d l in
    p.rows (length (flat_map f (take i rows)) + j) (omega (arith, room, m)) ∙ get_or-flat_map f rows i j d raw_null l m

inside : {X : Type 0} (k : LogicalType) (f : X → List Raw) (rows : List X) (d : X) (e : Layout) (i : ℕ) → IsColumn k (flat_map f rows) e → i < length rows
    → raw_span (λ j. raw_row e j) (length (flat_map f (take i rows))) (length (f (get_or rows i d))) ≡ raws_from (f (get_or rows i d))
inside k f rows d e i p l = spanned (λ j. raw_row e j) (f (get_or rows i d)) (length (flat_map f (take i rows))) (λ j m. item_at k f rows d e i j p l m)

pub sized_column : (n : Nullability) (present : List (Option (Unit {0}))) (v : Valid) (rows : List (Bool × List Raw)) → MarksCells n present v → map is_some present ≡ marks_of rows → (k : LogicalType) (m : ℕ) (e : Layout)
    → All (λ (r : Bool × List Raw). length r.1 ≡ m) rows → IsColumn k (flat_map (λ (r : Bool × List Raw). r.1) rows) e → IsColumn (fixed_list k m n) (map tuple_or_null rows) (fixed_lists e m (length present) v)
sized_column n present v rows marks same k m e sizes p =
    let f : Bool × List Raw → List Raw = λ r. r.1 in
    let all : len_of e ≡ length present * m =
    p.len ∙ ap (λ xs. length (flat_map f xs)) (sym (take_all (length rows) rows (omega arith))) ∙ begins n present v rows marks same m rows (length rows) sizes (omega arith)
    ∙ ap (λ x. x * m) (sym (many n present v rows marks same)) in
    record {
      sound = (p.sound, all, marks.fits);
      kind = λ t. fixed_list (p.kind t) m (marks.nullability t);
      len = many n present v rows marks same ∙ sym (length-map rows tuple_or_null);
      rows = λ i l.
          let w : i < length rows = within n present v rows marks same i l in
          row_is n present v rows marks same i (raw_span (λ j. raw_row e j) (i * m) m) w
          ((let b = begins n present v rows marks same m rows i sizes (omega (arith, w)) in let s = sizes i (false, []) w in λ t. raw_span (λ j. raw_row e j) (sym b t) (sym s t)) ∙ inside k f rows (false, []) e i p w);
    }

-- ---- lists

sizes_are : (rows : List (Option (List Raw))) → map (λ s. unwrap_or s 0) (map (option_map length) rows) ≡ map (λ r. length (items_in r)) rows
sizes_are [] = refl
sizes_are (None ∷ rows) = ap (λ xs. 0 ∷ xs) (sizes_are rows)
sizes_are (Some xs ∷ rows) = ap (λ ys. length xs ∷ ys) (sizes_are rows)

sums : {X : Type 0} (f : X → ℕ) (xs : List X) (i : ℕ) → sum_by (λ n. n) (take i (map f xs)) ≡ sum_by f (take i xs)
sums f xs zero = refl
sums f [] (suc i) = refl
sums f (x ∷ xs) (suc i) = sum_by-cons (λ n. n) (f x) (take i (map f xs)) ∙ ap (λ n. f x + n) (sums f xs i) ∙ sym (sum_by-cons f x (take i xs))

number_there : (xs : List ℕ) (i : ℕ) → i < length xs → number_in (content_at (counts xs) i) ≡ get_or xs i 0
number_there xs i l = ap (λ z. number_in (integer z)) (get_or-map pos xs i 0 (pos 0) l)

list_cell : (r : Option (List Raw)) (b : Bool) (s : Raws) → b ≡ is_some r → s ≡ raws_from (items_in r) → cond b (raw_tuple s) raw_null ≡ cell_raw tuple_of r
list_cell None b s e f = ap (λ t. cond t (raw_tuple s) raw_null) e
list_cell (Some xs) b s e f = λ t. cond (e t) (raw_tuple (f t)) raw_null

some_size : (r : Option (List Raw)) → is_some (option_map length r) ≡ is_some r
some_size None = refl
some_size (Some xs) = refl

module _ (k : LogicalType) (n : Nullability) (sizes : List (Option ℕ)) (rows : List (Option (List Raw))) (e : Layout) (os ss : List ℕ) (v : Valid) (marks : MarksCells n sizes v) (are : sizes ≡ map (option_map length) rows)
    (read : ss ≡ map (λ s. unwrap_or s 0) sizes) (h : StandEndToEnd ss os) (p : IsColumn k (flat_map items_in rows) e) where
  abbrev made : Layout
  made = list_views e (counts os) (counts ss) true v

  many_sizes : length sizes ≡ length rows
  many_sizes = ap length are ∙ length-map rows (option_map length)

  read_so : ss ≡ map (λ r. length (items_in r)) rows
  read_so = read ∙ ap (map (λ s. unwrap_or s 0)) are ∙ sizes_are rows

  many_ss : length ss ≡ length rows
  many_ss = ap length read_so ∙ length-map rows (λ r. length (items_in r))

  many_os : length os ≡ length rows
  many_os = h.many ∙ many_ss

  count : length (map pos os) ≡ length rows
  count = length-map os pos ∙ many_os

  size_at : (i : ℕ) → i < length rows → get_or ss i 0 ≡ length (items_in (get_or rows i None))
  size_at i l = ap (λ xs. get_or xs i 0) read_so ∙ get_or-map (λ r. length (items_in r)) rows i None 0 l

  offset_at : (i : ℕ) → i < length rows → get_or os i 0 ≡ length (flat_map items_in (take i rows))
  offset_at i l =
      h.offset i (subst (λ x. i < x) (sym many_ss) l) ∙ ap (λ xs. sum_by (λ n. n) (take i xs)) read_so ∙ sums (λ r. length (items_in r)) rows i ∙ sym (length-flat_map items_in (take i rows))

  offset_there : (i : ℕ) → i < length rows → number_in (content_at (counts os) i) ≡ length (flat_map items_in (take i rows))
  offset_there i l = number_there os i (subst (λ x. i < x) (sym many_os) l) ∙ offset_at i l

  size_there : (i : ℕ) → i < length rows → number_in (content_at (counts ss) i) ≡ length (items_in (get_or rows i None))
  size_there i l = number_there ss i (subst (λ x. i < x) (sym many_ss) l) ∙ size_at i l

  list_view : (i : ℕ) → i < length rows → IsView (len_of e) (content_at (counts os) i) (content_at (counts ss) i)
  list_view i l =
      let w_os : i < length os = subst (λ x. i < x) (sym many_os) l in
      let w_ss : i < length ss = subst (λ x. i < x) (sym many_ss) l in
      let room = length-flat_map-take items_in rows i None l in
      let fits : get_or os i 0 + get_or ss i 0 ≤ len_of e = omega (arith, room, p.len, offset_at i l, size_at i l) in
      subst (λ x. IsView (len_of e) (integer x) (integer (get_or (map pos ss) i (pos 0)))) (sym (get_or-map pos os i 0 (pos 0) w_os))
      (subst (λ x. IsView (len_of e) (integer (pos (get_or os i 0))) (integer x)) (sym (get_or-map pos ss i 0 (pos 0) w_ss)) fits)

  end_to_end : AreEndToEnd (counts os) (counts ss)
  end_to_end = λ i l.
      let after : suc i < length rows = subst (λ x. suc i < x) count l in
      let here : i < length rows = omega arith in
      let next : suc i ≡ i + 1 = omega arith in
      let more : flat_map items_in (take (suc i) rows) ≡ flat_map items_in (take i rows) ++ items_in (get_or rows i None) =
      ap (λ x. flat_map items_in (take x rows)) next ∙ ap (flat_map items_in) (take_more rows i None here) ∙ flat_map-append items_in (take i rows) (get_or rows i None ∷ [])
      ∙ ap (λ xs. flat_map items_in (take i rows) ++ xs) (append-nil (items_in (get_or rows i None))) in
      offset_there (suc i) after ∙ ap length more ∙ length-append (flat_map items_in (take i rows)) (items_in (get_or rows i None))
      ∙ (λ j. sym (offset_there i here) j + sym (size_there i here) j)

  pub lists_sound : All (InRange u64) (map pos os) → All (InRange u64) (map pos ss) → IsSound made
  lists_sound k_os k_ss = (
    p.sound,
    (k_os, tt),
    (k_ss, tt),
    tt,
    tt,
    length-map ss pos ∙ many_ss ∙ sym count,
    subst (HasLength v) (many_sizes ∙ sym count) marks.fits,
    (λ i b. list_view i (subst (λ x. i < x) count b)),
    (λ t. end_to_end),
  )

  pub lists_column : All (InRange u64) (map pos os) → All (InRange u64) (map pos ss) → IsColumn (list k n) (map (cell_raw tuple_of) rows) made
  lists_column k_os k_ss = record {
    sound = lists_sound k_os k_ss;
    kind = λ i. list (p.kind i) (marks.nullability i);
    len = count ∙ sym (length-map rows (cell_raw tuple_of));
    rows = λ i l.
        let w : i < length rows = subst (λ m. i < m) (length-map rows (cell_raw tuple_of)) l in
        let z : i < length sizes = subst (λ m. i < m) (sym many_sizes) w in
        let bit : is_valid v i ≡ is_some (get_or rows i None) = marks.bits i z ∙ ap (λ xs. is_some (get_or xs i None)) are ∙ ap is_some (get_or-map (option_map length) rows i None None w) ∙ some_size (get_or rows i None) in
        let o = offset_there i w in
        let s = size_there i w in
        list_cell (get_or rows i None) (is_valid v i) (raw_span (λ j. raw_row e j) (number_in (content_at (counts os) i)) (number_in (content_at (counts ss) i))) bit
        ((λ t. raw_span (λ j. raw_row e j) (o t) (s t)) ∙ inside k items_in rows None e i p w)
        ∙ sym (get_or-map (cell_raw tuple_of) rows i None raw_null w);
  }

-- natural numbers as integers
pub counted_made : (k : IntKind) (zs : List ℤ) (xs : List ℕ) → k ≡ u64 → zs ≡ map pos xs → numbers k zs required ≡ counts xs
counted_made k zs xs e f = λ i. numbers (e i) (f i) required

pub counted_held : (k : IntKind) (zs : List ℤ) (xs : List ℕ) → k ≡ u64 → zs ≡ map pos xs → All (InRange k) zs → All (InRange u64) (map pos xs)
counted_held k zs xs e f h = subst (λ ys. All (InRange u64) ys) f (subst (λ j. All (InRange j) zs) e h)

pub ruleset counted = (counted_made, counted_held)

-- ---- builders

pub leaf_finished : (c : ColumnBuilder) (k : LogicalType) (a : Layout) → IsColumn (column_type c) (cells_of c) a → (rs : List Raw) → Holds (column_of (nested.Leaf c)) k rs → IsColumn k rs a
leaf_finished c k a is rs h =
    let g = subst (λ x. Holds x k rs) (column_of-Leaf c) h in
    subst (λ j. IsColumn j rs a) g.0 (subst (λ xs. IsColumn (column_type c) xs a) g.1 is)

record_holds : (p : Vec (Option (Unit {0})) Global) (cs : Vec NestedBuilder Global) (fs : Fields) (n : Nullability) (rs : List Raw) → Holds (column_of (nested.Records p cs)) (struct fs n) rs
    → Holds (tuples (map is_some p.items) (columns_of cs.items)) (struct fs n) rs
record_holds p cs fs n rs h = subst (λ x. Holds x (struct fs n) rs) (column_of-Records p cs) h

pub record_fields : (p : Vec (Option (Unit {0})) Global) (cs : Vec NestedBuilder Global) (fs : Fields) (n : Nullability) → IsOf (column_of (nested.Records p cs)) (struct fs n) → AreOf (columns_of cs.items) fs
record_fields p cs fs n of = let h = record_holds p cs fs n of.0 of.1 in (insides h.0, h.3)

pub record_inside : (p : Vec (Option (Unit {0})) Global) (cs : Vec NestedBuilder Global) (fs : Fields) (n : Nullability) (arrays : List Layout) → ((rows : List (List Raw)) → HaveFields (columns_of cs.items) fs rows → AreArrays fs rows arrays)
    → (rs : List Raw) → Holds (column_of (nested.Records p cs)) (struct fs n) rs → (rows : List (Bool × List Raw)) × HaveInside fs (map is_some p.items) arrays rows × (rs ≡ map tuple_or_null rows)
record_inside p cs fs n arrays made rs held =
    let h = record_holds p cs fs n rs held in
    (h.0, record { marks = h.1; inside = made (insides h.0) h.3 }, h.2)

list_holds : (s : Vec (Option ℕ) Global) (c : Box NestedBuilder Global) (k : LogicalType) (n : Nullability) (rs : List Raw) → Holds (column_of (nested.Lists s c)) (list k n) rs → Holds (lists s.items (column_of c.value)) (list k n) rs
list_holds s c k n rs h = subst (λ x. Holds x (list k n) rs) (column_of-Lists s c) h

pub list_items : (s : Vec (Option ℕ) Global) (c : Box NestedBuilder Global) (k : LogicalType) (n : Nullability) → IsOf (column_of (nested.Lists s c)) (list k n) → IsOf (column_of c.value) k
list_items s c k n of = let h = list_holds s c k n of.0 of.1 in (flat_map items_in h.0, h.3)

own_kind : (k : LogicalType) (rs : List Raw) (a : Layout) → IsColumn k rs a → IsColumn (array_type_of a) rs a
own_kind k rs a is = subst (λ j. IsColumn j rs a) (sym is.kind) is

pub list_inside : (s : Vec (Option ℕ) Global) (c : Box NestedBuilder Global) (k : LogicalType) (n : Nullability) (e : Layout) → ((rs : List Raw) → Holds (column_of c.value) k rs → IsColumn k rs e)
    → (rs : List Raw) → Holds (column_of (nested.Lists s c)) (list k n) rs → (rows : List (Option (List Raw))) × AreLists s.items e rows × (rs ≡ map (cell_raw tuple_of) rows) × (array_type_of e ≡ k)
list_inside s c k n e made rs held =
    let h = list_holds s c k n rs held in
    let is = made (flat_map items_in h.0) h.3 in
    (h.0, record { counts = h.1; inside = own_kind k (flat_map items_in h.0) e is }, h.2, is.kind)

sized_holds : (m : ℕ) (p : Vec (Option (Unit {0})) Global) (c : Box NestedBuilder Global) (k : LogicalType) (size : ℕ) (n : Nullability) (rs : List Raw) → Holds (column_of (nested.FixedLists m p c)) (fixed_list k size n) rs
    → Holds (sized_lists m (map is_some p.items) (column_of c.value)) (fixed_list k size n) rs
sized_holds m p c k size n rs h = subst (λ x. Holds x (fixed_list k size n) rs) (column_of-FixedLists m p c) h

pub sized_items : (m : ℕ) (p : Vec (Option (Unit {0})) Global) (c : Box NestedBuilder Global) (k : LogicalType) (size : ℕ) (n : Nullability) → IsOf (column_of (nested.FixedLists m p c)) (fixed_list k size n) → IsOf (column_of c.value) k
sized_items m p c k size n of = let h = sized_holds m p c k size n of.0 of.1 in (flat_map (λ (r : Bool × List Raw). r.1) h.0, h.5)

pub sized_inside : (m : ℕ) (p : Vec (Option (Unit {0})) Global) (c : Box NestedBuilder Global) (k : LogicalType) (size : ℕ) (n : Nullability) (e : Layout) → ((rs : List Raw) → Holds (column_of c.value) k rs → IsColumn k rs e)
    → (rs : List Raw) → Holds (column_of (nested.FixedLists m p c)) (fixed_list k size n) rs
    → (rows : List (Bool × List Raw)) × AreSizedLists m (map is_some p.items) e rows × (rs ≡ map tuple_or_null rows) × (array_type_of e ≡ k) × (m ≡ size)
sized_inside m p c k size n e made rs held =
    let h = sized_holds m p c k size n rs held in
    let is = made (flat_map (λ (r : Bool × List Raw). r.1) h.0) h.5 in
    (h.0, record { marks = h.1; counts = h.4; inside = own_kind k (flat_map (λ (r : Bool × List Raw). r.1) h.0) e is }, h.2, is.kind, h.3)

-- ---- columns that become arrays

-- the array has the cells of the column
abbrev pub Becomes : NestedBuilder → LogicalType → Layout → Type 0
Becomes b k a = (rs : List Raw) → Holds (column_of b) k rs → IsColumn k rs a

pub same_of : (b c : NestedBuilder) (k j : LogicalType) → b ≡ c → k ≡ j → IsOf (column_of b) k → IsOf (column_of c) j
same_of b c k j e f of = subst (λ x. IsOf (column_of x) j) e (subst (λ x. IsOf (column_of b) x) f of)

pub same_becomes : (b c : NestedBuilder) (k j : LogicalType) (a : Layout) → b ≡ c → k ≡ j → Becomes b k a → Becomes c j a
same_becomes b c k j a e f h = subst (λ x. Becomes x j a) e (subst (λ x. Becomes b x a) f h)

pub record_becomes : (p : Vec (Option (Unit {0})) Global) (cs : Vec NestedBuilder Global) (fs : Fields) (n : Nullability) (arrays : List Layout) (a : Layout) → ((rows : List (List Raw)) → HaveFields (columns_of cs.items) fs rows → AreArrays fs rows arrays)
    → ((rows : List (Bool × List Raw)) → HaveInside fs (map is_some p.items) arrays rows → IsColumn (struct fs n) (map tuple_or_null rows) a) → Becomes (nested.Records p cs) (struct fs n) a
record_becomes p cs fs n arrays a made h rs held =
    let x = record_inside p cs fs n arrays made rs held in
    subst (λ ys. IsColumn (struct fs n) ys a) (sym x.2) (h x.0 x.1)

pub list_becomes : (s : Vec (Option ℕ) Global) (c : Box NestedBuilder Global) (k : LogicalType) (n : Nullability) (e a : Layout) → Becomes c.value k e
    → ((rows : List (Option (List Raw))) → AreLists s.items e rows → IsColumn (list (array_type_of e) n) (map (cell_raw tuple_of) rows) a) → Becomes (nested.Lists s c) (list k n) a
list_becomes s c k n e a made h rs held =
    let x = list_inside s c k n e made rs held in
    subst (λ j. IsColumn (list j n) rs a) x.3 (subst (λ ys. IsColumn (list (array_type_of e) n) ys a) (sym x.2) (h x.0 x.1))

pub sized_becomes : (m : ℕ) (p : Vec (Option (Unit {0})) Global) (c : Box NestedBuilder Global) (k : LogicalType) (size : ℕ) (n : Nullability) (e a : Layout) → Becomes c.value k e
    → ((rows : List (Bool × List Raw)) → AreSizedLists m (map is_some p.items) e rows → IsColumn (fixed_list (array_type_of e) m n) (map tuple_or_null rows) a) → Becomes (nested.FixedLists m p c) (fixed_list k size n) a
sized_becomes m p c k size n e a made h rs held =
    let x = sized_inside m p c k size n e made rs held in
    subst (λ z. IsColumn (fixed_list k z n) rs a) x.4 (subst (λ j. IsColumn (fixed_list j m n) rs a) x.3 (subst (λ ys. IsColumn (fixed_list (array_type_of e) m n) ys a) (sym x.2) (h x.0 x.1)))
