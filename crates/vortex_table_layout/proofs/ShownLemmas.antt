-- Arrays whose lists in null structs are empty.
use Rattle.std.proofs.Common.{◌≡◌, ◌<◌, ◌≤◌, ◌+◌, ◌^◌, ◌&&◌, ℕ, suc, pos, Bool, true, false, cond, List, [], ◌∷◌, length, map, get_or, replicate, sum_by, refl, sym, ap, subst, ◌∙◌, arith, inl, inr}
use Rattle.std.specs.List.{range_with_len}
use Rattle.std.proofs.lemmas.List.{get_or-map, length-map, get_or-replicate}
use Rattle.std.proofs.lemmas.List.FromFn.{get_or-map-range_with_len, length-map-range_with_len}
use Rattle.std.proofs.lemmas.List.Sums.{sum_by-cons}
use Rattle.std.proofs.lemmas.Bool.{and_from}
use Rattle.std.specs.Cmp.{first_so, second_so}
use Rattle.vortex_model.specs.LogicalType.{struct, field}
use Rattle.vortex_model.specs.Content.{Content, null, integer, tuple, Contents, nothing, first, count, nth}
use Rattle.vortex_model.specs.Path.{part_of}
use Rattle.vortex_arrays_view.specs.declared.error.ArrayError.{ArrayError}
use Rattle.vortex_arrays_view.specs.declared.error.ArrayError.TheVariants as error
use Rattle.vortex_arrays_model.specs.Layout.{Layout, list_views, records, Valid, Columns, no_columns, column, len_of, array_type_of, fields_of, nullability_by, content_at, is_valid, number_in, span, row_at, rows_of, IsSound, IsView, HaveLength}
use Rattle.vortex_arrays_model.specs.Parts.{columns_of}
use Rattle.vortex_arrays_model.specs.Canonical.{counts, listed, items_of}
use Rattle.vortex_arrays_model.proofs.PicksLemmas.{field_size}
use Rattle.vortex_arrays_model.proofs.RowsLemmas.{row_at_position, row_count, rows_by_position}
use Rattle.vortex_arrays_model.proofs.CanonicalLemmas.{offsets_are_integers}
use Rattle.vortex_arrays_validity.specs.Places.{places_or}
use Rattle.vortex_arrays_validity.proofs.PlaceLemmas.{place_count, place_read, number_named}
use Rattle.vortex_arrays_rebuild.specs.Rebuilds.{total_of}
use Rattle.vortex_table_layout.specs.TooManyElements.{size_of, HasTooManyElements, HaveTooManyElements}
use Rattle.vortex_table_layout.specs.Compacted.{IsCompacted, HasTooManyItems, HaveTooManyItems, HasSeenLists, IsShown, AreShown, IsCompactedAs, IsWholeFault, IsCompactFault}
use Rattle.vortex_table_layout.proofs.CompactLemmas.{compacted_type, compacted_rows}
use Rattle.vortex_table_layout.proofs.MadeColumns.{FirstMade, first_none, first_more, first_many, first_fit}

-- ---- parts that don't change

pub shown_len : (seen : ℕ → Bool) (a b : Layout) → IsShown seen a b → len_of b ≡ len_of a
shown_len seen (list_views e o s true v) b h = ap len_of h
shown_len seen (list_views e o s false v) b h = ap len_of h.made
shown_len seen (records cs n v) (records ds m w) h = h.0
shown_len seen (records cs n v) b h = absurd h
shown_len seen a b h = ap len_of h

mutual
  pub shown_type : (seen : ℕ → Bool) (a b : Layout) → IsShown seen a b → array_type_of b ≡ array_type_of a
  shown_type seen (list_views e o s true v) b h = ap array_type_of h
  shown_type seen (list_views e o s false v) b h = ap array_type_of h.made
  shown_type seen (records cs n v) (records ds m w) h = λ t. struct (shown_fields (λ i. seen i && is_valid v i) cs ds h.2 t) (nullability_by (h.1 t))
  shown_type seen (records cs n v) b h = absurd h
  shown_type seen a b h = ap array_type_of h

  shown_fields : (seen : ℕ → Bool) (cs ds : Columns) → AreShown seen cs ds → fields_of ds ≡ fields_of cs
  shown_fields seen no_columns no_columns h = refl
  shown_fields seen (column x a cs) (column y b ds) h = λ t. field (h.0 t) (shown_type seen a b h.1 t) (shown_fields seen cs ds h.2 t)
  shown_fields seen cs ds h = absurd h

module _ (seen : ℕ → Bool) (e o s : Layout) (v : Valid) (b : Layout) (h : HasSeenLists seen e o s v b) where
  abbrev old : Layout
  old = list_views e o s false v

  size_there : (i : ℕ) → i < len_of s → number_in (content_at (counts h.sizes) i) ≡ cond (seen i) (number_in (content_at s i)) 0
  size_there i l = ap (λ z. number_in (integer z)) (get_or-map pos h.sizes i 0 (pos 0) (subst (λ n. i < n) (sym h.many) l)) ∙ h.size i l

  pub seen_row : (i : ℕ) → i < len_of s → seen i ≡ true → content_at b i ≡ content_at old i
  seen_row i l t =
      ap (λ x. content_at x i) h.made
      ∙ ap (λ n. cond (is_valid v i) (tuple (span (content_at e) (number_in (content_at o i)) n)) null) (size_there i l ∙ ap (λ q. cond q (number_in (content_at s i)) 0) t)

  no_items : (q : Bool) (k : ℕ) → length (items_of (cond q (tuple (span (content_at e) k 0)) null)) ≡ 0
  no_items true k = refl
  no_items false k = refl

  hidden_row : (i : ℕ) → i < len_of s → seen i ≡ false → length (items_of (content_at b i)) ≡ 0
  hidden_row i l t =
      ap (λ x. length (items_of (content_at x i))) h.made
      ∙ ap (λ n. length (items_of (cond (is_valid v i) (tuple (span (content_at e) (number_in (content_at o i)) n)) null))) (size_there i l ∙ ap (λ q. cond q (number_in (content_at s i)) 0) t)
      ∙ no_items (is_valid v i) (number_in (content_at o i))

if_valid : (q : Bool) (xs ys : Contents) → (q ≡ true → xs ≡ ys) → cond q (tuple xs) null ≡ cond q (tuple ys) null
if_valid true xs ys h = ap tuple (h refl)
if_valid false xs ys h = refl

mutual
  pub shown_content : (seen : ℕ → Bool) (a b : Layout) → IsSound a → IsShown seen a b → (i : ℕ) → i < len_of a → seen i ≡ true → content_at b i ≡ content_at a i
  shown_content seen (list_views e o s true v) b sound h i l t = ap (λ x. content_at x i) h
  shown_content seen (list_views e o s false v) b sound h i l t = seen_row seen e o s v b h i (subst (λ n. i < n) (sym sound.5) l) t
  shown_content seen (records cs n v) (records ds m w) sound h i l t =
      ap (λ x. cond (is_valid x i) (tuple (row_at ds i)) null) h.1
      ∙ if_valid (is_valid v i) (row_at ds i) (row_at cs i) (λ q. shown_row (λ j. seen j && is_valid v j) cs ds n sound.0 h.2 i l (and_from (seen i) (is_valid v i) t q))
  shown_content seen (records cs n v) b sound h i l t = absurd h
  shown_content seen a b sound h i l t = ap (λ x. content_at x i) h

  shown_row : (seen : ℕ → Bool) (cs ds : Columns) (n : ℕ) → HaveLength cs n → AreShown seen cs ds → (i : ℕ) → i < n → seen i ≡ true → row_at ds i ≡ row_at cs i
  shown_row seen no_columns no_columns n fit h i l t = refl
  shown_row seen (column x a cs) (column y b ds) n fit h i l t =
      λ j. first (shown_content seen a b fit.0 h.1 i (subst (λ m. i < m) (sym fit.1) l) t j) (shown_row seen cs ds n fit.2 h.2 i l t j)
  shown_row seen cs ds n fit h i l t = absurd h

pub shown_rows : (a b : Layout) → IsSound a → IsShown (λ i. true) a b → rows_of b ≡ rows_of a
shown_rows a b sound h =
    let same : len_of b ≡ len_of a = shown_len (λ i. true) a b h in
    rows_by_position b (rows_of a) (row_count a ∙ sym same) (λ i l.
    let within : i < len_of a = subst (λ n. i < n) same l in
    row_at_position a i null within ∙ sym (shown_content (λ i. true) a b sound h i within refl))

-- ---- the seen rows have no fewer elements

listed_count : (cs : Contents) → length (listed cs) ≡ count cs
listed_count nothing = refl
listed_count (first c cs) = let h = listed_count cs in omega (arith, h)

items_count : (c : Content) → length (items_of c) ≡ size_of c
items_count (tuple cs) = listed_count cs
items_count c = refl

sums_within : (xs ys : List Content) → length xs ≡ length ys → ((i : ℕ) → i < length xs → length (items_of (get_or xs i null)) ≤ size_of (get_or ys i null)) → total_of xs ≤ sum_by size_of ys
sums_within [] [] e h = omega arith
sums_within [] (y ∷ ys) e h = absurd (omega (arith, e))
sums_within (x ∷ xs) [] e h = absurd (omega (arith, e))
sums_within (x ∷ xs) (y ∷ ys) e h =
    let here : length (items_of x) ≤ size_of y = h 0 (omega arith) in
    let rest : total_of xs ≤ sum_by size_of ys = sums_within xs ys (omega (arith, e)) (λ i l. h (suc i) (omega (arith, l))) in
    let left = sum_by-cons (λ row. length (items_of row)) x xs in
    let right = sum_by-cons size_of y ys in
    omega (arith, here, rest, left, right)

module _ (seen : ℕ → Bool) (e o s : Layout) (v : Valid) (b : Layout) (h : HasSeenLists seen e o s v b) (rows : List Content) where
  row_within : (i : ℕ) (q : Bool) → i < len_of s → (seen i ≡ true → get_or rows i null ≡ content_at (list_views e o s false v) i) → seen i ≡ q → length (items_of (content_at b i)) ≤ size_of (get_or rows i null)
  row_within i true l same t =
      let there : length (items_of (content_at b i)) ≡ size_of (get_or rows i null) = ap (λ c. length (items_of c)) (seen_row seen e o s v b h i l t ∙ sym (same t)) ∙ items_count (get_or rows i null) in
      omega (arith, there)
  row_within i false l same t = let none = hidden_row seen e o s v b h i l t in omega (arith, none)

  lists_within : len_of s ≡ len_of o → length rows ≡ len_of o → ((i : ℕ) → i < len_of o → seen i ≡ true → get_or rows i null ≡ content_at (list_views e o s false v) i) → total_of (rows_of b) ≤ sum_by size_of rows
  lists_within as_many many same =
      let len : len_of b ≡ len_of o = ap len_of h.made in
      sums_within (rows_of b) rows (row_count b ∙ len ∙ sym many) (λ i l.
      let there : i < len_of b = subst (λ n. i < n) (row_count b) l in
      let within : i < len_of o = subst (λ n. i < n) len there in
      subst (λ c. length (items_of c) ≤ size_of (get_or rows i null)) (sym (row_at_position b i null there))
      (row_within i (seen i) (subst (λ n. i < n) (sym as_many) within) (same i within) refl))

  lists_pass : len_of s ≡ len_of o → length rows ≡ len_of o → ((i : ℕ) → i < len_of o → seen i ≡ true → get_or rows i null ≡ content_at (list_views e o s false v) i) → HasTooManyItems b → 2 ^ 64 ≤ sum_by size_of rows
  lists_pass as_many many same t =
      let whole : HasTooManyItems (list_views e o (counts h.sizes) false v) = subst HasTooManyItems h.made t in
      let less : total_of (rows_of (list_views e o (counts h.sizes) false v)) ≤ sum_by size_of rows = subst (λ x. total_of (rows_of x) ≤ sum_by size_of rows) h.made (lists_within as_many many same) in
      omega (arith, whole.1, less)

part_there : (q : Bool) (xs : Contents) (c : Content) (j : ℕ) → q ≡ true → c ≡ cond q (tuple xs) null → part_of c j ≡ nth xs j
part_there q xs c j t e = ap (λ x. part_of x j) (e ∙ ap (λ p. cond p (tuple xs) null) t)

mutual
  -- where the seen rows of an array have too many items, so do rows that equal its own where seen
  pub shown_pass : (seen : ℕ → Bool) (a b : Layout) (rows : List Content) → IsSound a → IsShown seen a b → length rows ≡ len_of a → ((i : ℕ) → i < len_of a → seen i ≡ true → get_or rows i null ≡ content_at a i) → HasTooManyItems b → HasTooManyElements (array_type_of a) rows
  shown_pass seen (list_views e o s true v) b rows sound h many same t = let x : HasTooManyItems (list_views e o s true v) = subst HasTooManyItems h t in absurd (cc x.0)
  shown_pass seen (list_views e o s false v) b rows sound h many same t = lists_pass seen e o s v b h rows sound.5 many same t
  shown_pass seen (records cs n v) (records ds m w) rows sound h many same t =
      columns_pass (λ i. seen i && is_valid v i) cs ds n 0 rows sound.0 h.2 many
      (λ i l q j. ap (part_of (get_or rows i null)) (let z : 0 + j ≡ j = omega arith in z) ∙ part_there (is_valid v i) (row_at cs i) (get_or rows i null) j (second_so (seen i) (is_valid v i) q) (same i l (first_so (seen i) (is_valid v i) q))) t
  shown_pass seen (records cs n v) b rows sound h many same t = absurd h
  shown_pass seen a b rows sound h many same t = absurd (subst HasTooManyItems h t)

  columns_pass : (seen : ℕ → Bool) (cs ds : Columns) (n k : ℕ) (rows : List Content) → HaveLength cs n → AreShown seen cs ds → length rows ≡ n → ((i : ℕ) → i < n → seen i ≡ true → (j : ℕ) → part_of (get_or rows i null) (k + j) ≡ nth (row_at cs i) j) → HaveTooManyItems ds → HaveTooManyElements (fields_of cs) k rows
  columns_pass seen no_columns no_columns n k rows fit h many same t = absurd t
  columns_pass seen (column x a cs) (column y b ds) n k rows fit h many same (inl t) =
      inl (shown_pass seen a b (map (λ row. part_of row k) rows) fit.0 h.1 (length-map rows (λ row. part_of row k) ∙ many ∙ sym fit.1)
      (λ i l q.
      let within : i < n = subst (λ m. i < m) fit.1 l in
      get_or-map (λ row. part_of row k) rows i null null (subst (λ m. i < m) (sym many) within)
      ∙ ap (part_of (get_or rows i null)) (let z : k ≡ k + 0 = omega arith in z) ∙ same i within q 0) t)
  columns_pass seen (column x a cs) (column y b ds) n k rows fit h many same (inr t) =
      inr (columns_pass seen cs ds n (suc k) rows fit.2 h.2 many
      (λ i l q j. ap (part_of (get_or rows i null)) (let z : suc k + j ≡ k + suc j = omega arith in z) ∙ same i l q (suc j)) t)
  columns_pass seen cs ds n k rows fit h many same t = absurd h

pub all_pass : (a b : Layout) → IsSound a → IsShown (λ i. true) a b → HasTooManyItems b → HasTooManyElements (array_type_of a) (rows_of a)
all_pass a b sound h t = shown_pass (λ i. true) a b (rows_of a) sound h (row_count a) (λ i l q. row_at_position a i null l) t

-- ---- the result

pub made_whole : (a r : Layout) → IsCompacted a r → IsCompactedAs a r
made_whole a r h = inl h

pub made_shown : (a b r : Layout) → IsShown (λ i. true) a b → IsCompacted b r → HasTooManyItems a → IsCompactedAs a r
made_shown a b r h c many = inr (record { too_many = many; shown = b; is_shown = h; compacted = c })

pub type_shown : (a b r : Layout) → IsShown (λ i. true) a b → IsCompacted b r → array_type_of r ≡ array_type_of a
type_shown a b r h c = compacted_type b r c ∙ shown_type (λ i. true) a b h

pub rows_shown : (a b r : Layout) → IsSound a → IsSound b → IsShown (λ i. true) a b → IsCompacted b r → rows_of r ≡ rows_of a
rows_shown a b r sound fits h c = compacted_rows b r fits c ∙ shown_rows a b sound h

pub fault_shown : (x : ArrayError) (a b : Layout) → IsSound a → IsShown (λ i. true) a b → IsWholeFault x b → IsCompactFault x a
fault_shown error.Memory a b sound h f = tt
fault_shown error.Total a b sound h f = all_pass a b sound h f
fault_shown x a b sound h f = absurd f

pub no_memory : (x : ArrayError) (a : Layout) → x ≡ error.Memory → IsCompactFault x a
no_memory x a h = subst (λ y. IsCompactFault y a) (sym h) tt

pub total_whole : (a : Layout) → IsWholeFault error.Total a → HasTooManyItems a
total_whole a h = h

-- ---- seen rows, by index

mutual
  pub shown_same : (f g : ℕ → Bool) (a b : Layout) → IsSound a → ((i : ℕ) → i < len_of a → f i ≡ g i) → IsShown f a b → IsShown g a b
  shown_same f g (list_views e o s true v) b sound same h = h
  shown_same f g (list_views e o s false v) b sound same h = record {
    sizes = h.sizes;
    made = h.made;
    many = h.many;
    size = λ i l. h.size i l ∙ ap (λ q. cond q (number_in (content_at s i)) 0) (same i (subst (λ n. i < n) sound.5 l));
  }
  shown_same f g (records cs n v) (records ds m w) sound same h =
      (h.0, h.1, columns_same (λ i. f i && is_valid v i) (λ i. g i && is_valid v i) cs ds n sound.0 (λ i l. ap (λ q. q && is_valid v i) (same i l)) h.2)
  shown_same f g (records cs n v) b sound same h = absurd h
  shown_same f g a b sound same h = h

  pub columns_same : (f g : ℕ → Bool) (cs ds : Columns) (n : ℕ) → HaveLength cs n → ((i : ℕ) → i < n → f i ≡ g i) → AreShown f cs ds → AreShown g cs ds
  columns_same f g no_columns no_columns n fit same h = tt
  columns_same f g (column x a cs) (column y b ds) n fit same h =
      (h.0, shown_same f g a b fit.0 (λ i l. same i (subst (λ m. i < m) fit.1 l)) h.1, columns_same f g cs ds n fit.2 same h.2)
  columns_same f g cs ds n fit same h = absurd h

-- the rows at which a list of booleans is true
abbrev pub seen_in : List Bool → ℕ → Bool
seen_in bs i = get_or bs i false

-- all rows are seen
pub shown_all : (bs : List Bool) (n : ℕ) (a b : Layout) → bs ≡ replicate n true → n ≡ len_of a → IsSound a → IsShown (seen_in bs) a b → IsShown (λ i. true) a b
shown_all bs n a b e many sound h = shown_same (seen_in bs) (λ i. true) a b sound (λ i l. ap (λ xs. get_or xs i false) e ∙ get_or-replicate n i true false (subst (λ m. i < m) (sym many) l)) h

-- the rows of a struct that is not null
pub shown_inside : (bs inside : List Bool) (cs ds : Columns) (n : ℕ) (v : Valid) → HaveLength cs n → length bs ≡ n → inside ≡ map (λ i. get_or bs i false && is_valid v i) (range_with_len 0 (length bs)) → AreShown (seen_in inside) cs ds → AreShown (λ i. seen_in bs i && is_valid v i) cs ds
shown_inside bs inside cs ds n v fit many e h = columns_same (seen_in inside) (λ i. seen_in bs i && is_valid v i) cs ds n fit
    (λ i l. ap (λ xs. get_or xs i false) e ∙ get_or-map-range_with_len (λ i. get_or bs i false && is_valid v i) 0 (length bs) i i false (subst (λ m. i < m) (sym many) l) (omega arith)) h

pub records_shown : (bs inside : List Bool) (a : Layout) (cs ds : Columns) (n : ℕ) (v : Valid) → a ≡ records cs n v → IsSound (records cs n v) → length bs ≡ n → inside ≡ map (λ i. get_or bs i false && is_valid v i) (range_with_len 0 (length bs)) → AreShown (seen_in inside) cs ds → IsShown (seen_in bs) a (records ds n v)
records_shown bs inside a cs ds n v e sound many made h = subst (λ x. IsShown (seen_in bs) x (records ds n v)) (sym e) (refl, refl, shown_inside bs inside cs ds n v sound.0 many made h)

-- ---- list views

pub lists_shown : (seen : ℕ → Bool) (a e o s : Layout) (f : Bool) (v : Valid) (b : Layout) → a ≡ list_views e o s f v → f ≡ false → HasSeenLists seen e o s v b → IsShown seen a b
lists_shown seen a e o s true v b is n h = absurd (cc n)
lists_shown seen a e o s false v b is n h = subst (λ x. IsShown seen x b) (sym is) h

pub flagged_shown : (seen : ℕ → Bool) (a e o s : Layout) (f : Bool) (v : Valid) (b : Layout) → a ≡ list_views e o s f v → f ≡ true → b ≡ a → IsShown seen a b
flagged_shown seen a e o s true v b is y h = subst (λ x. IsShown seen x b) (sym is) (h ∙ is)
flagged_shown seen a e o s false v b is y h = absurd (cc y)

view_less : (n : ℕ) (x y : Content) (m : ℕ) → IsView n x y → m ≤ number_in y → IsView n x (integer (pos m))
view_less n (integer (pos i)) (integer (pos s)) m h l = omega (arith, h, l)
view_less n x y m h l = absurd h

less_or_none : (q : Bool) (n : ℕ) → cond q n 0 ≤ n
less_or_none true n = omega arith
less_or_none false n = omega arith

module _ (e o s : Layout) (v : Valid) (bs : List Bool) (xs ns : List ℕ) (read : xs ≡ places_or 0 s) (shown : ns ≡ map (λ i. cond (get_or bs i false) (get_or xs i 0) 0) (range_with_len 0 (length xs))) where
  pub as_many : length xs ≡ len_of s
  as_many = ap length read ∙ place_count 0 s

  sizes_many : length ns ≡ len_of s
  sizes_many = ap length shown ∙ length-map-range_with_len (λ i. cond (get_or bs i false) (get_or xs i 0) 0) 0 (length xs) ∙ as_many

  size_here : (i : ℕ) → i < len_of s → get_or ns i 0 ≡ cond (seen_in bs i) (number_in (content_at s i)) 0
  size_here i l =
      ap (λ ys. get_or ys i 0) shown
      ∙ get_or-map-range_with_len (λ i. cond (get_or bs i false) (get_or xs i 0) 0) 0 (length xs) i i 0 (subst (λ m. i < m) (sym as_many) l) (omega arith)
      ∙ ap (λ n. cond (get_or bs i false) n 0) (ap (λ ys. get_or ys i 0) read ∙ place_read 0 s i 0 l ∙ number_named (content_at s i))

  pub seen_lists : (b : Layout) → b ≡ list_views e o (counts ns) false v → HasSeenLists (seen_in bs) e o s v b
  seen_lists b made = record { sizes = ns; made = made; many = sizes_many; size = size_here }

  pub seen_sound : IsSound (list_views e o s false v) → IsSound (counts ns) → IsSound (list_views e o (counts ns) false v)
  seen_sound sound fits = (
    sound.0,
    sound.1,
    fits,
    sound.3,
    tt,
    length-map ns pos ∙ sizes_many ∙ sound.5,
    sound.6,
    (λ i l.
        let w : i < len_of s = subst (λ m. i < m) (sym sound.5) l in
        let small : get_or ns i 0 ≤ number_in (content_at s i) = subst (λ m. m ≤ number_in (content_at s i)) (sym (size_here i w)) (less_or_none (seen_in bs i) (number_in (content_at s i))) in
        subst (λ z. IsView (len_of e) (content_at o i) (integer z)) (sym (get_or-map pos ns i 0 (pos 0) (subst (λ m. i < m) (sym sizes_many) w)))
        (view_less (len_of e) (content_at o i) (content_at s i) (get_or ns i 0) (sound.7 i l) small)),
    (λ t. absurd (cc t)),
  )

-- ---- the columns, one after another

all_shown : (seen : ℕ → Bool) (ns : List (List ℕ)) (fs xs : List Layout) → length xs ≡ length fs → ((k : ℕ) (d : Layout) → k < length fs → IsShown seen (get_or fs k d) (get_or xs k d)) → AreShown seen (columns_of ns fs) (columns_of ns xs)
all_shown seen ns [] (x ∷ xs) e h = absurd (omega (arith, e))
all_shown seen ns (a ∷ fs) [] e h = absurd (omega (arith, e))
all_shown seen [] [] [] e h = tt
all_shown seen (y ∷ ns) [] [] e h = tt
all_shown seen [] (a ∷ fs) (x ∷ xs) e h = (refl, h 0 a (omega arith), all_shown seen [] fs xs (omega (arith, e)) (λ k d l. h (suc k) d (omega arith)))
all_shown seen (y ∷ ns) (a ∷ fs) (x ∷ xs) e h = (refl, h 0 a (omega arith), all_shown seen ns fs xs (omega (arith, e)) (λ k d l. h (suc k) d (omega arith)))

pub first_all : (seen : ℕ → Bool) (ns : List (List ℕ)) (fs : List Layout) (n : ℕ) (xs : List Layout) → FirstMade (IsShown seen) fs n xs → n ≡ length fs → AreShown seen (columns_of ns fs) (columns_of ns xs)
first_all seen ns fs n xs h e = all_shown seen ns fs xs (h.many ∙ e) (λ k d l. h.each k d (omega (arith, l, e)))

pub shown_fit : (seen : ℕ → Bool) (ns : List (List ℕ)) (fs : List Layout) (n m : ℕ) (xs : List Layout) → FirstMade (IsShown seen) fs n xs → n ≡ length fs → HaveLength (columns_of ns fs) m → HaveLength (columns_of ns xs) m
shown_fit seen ns fs n m xs h e fit = first_fit (IsShown seen) (shown_len seen) ns fs n m xs h e fit

pub ruleset answers = (made_whole, made_shown, type_shown, rows_shown, fault_shown, shown_all, no_memory)

pub ruleset layouts = (records_shown, lists_shown, flagged_shown)

pub ruleset fields = (first_none, first_more, first_all, shown_fit, first_many, field_size)

pub ruleset sized = (seen_lists, seen_sound, offsets_are_integers, as_many)
