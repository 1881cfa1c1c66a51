-- Lists of any size end to end, in the layout without gaps.
use Rattle.std.proofs.Common.{◌≡◌, ◌<◌, ◌≤◌, ◌+◌, ◌-◌, ◌%◌, ◌^◌, ◌⊎◌, inl, inr, ℕ, pos, Bool, true, false, cond, List, [], ◌∷◌, ◌++◌, length, map, flat_map, take, get_or, refl, sym, ap, subst, ◌∙◌, append_assoc, arith}
use Rattle.std.specs.List.{All, sum_by}
use Rattle.std.proofs.Math.Nat.{mod-eq_of_lt}
use Rattle.std.proofs.Math.Seq.{take-append-add}
use Rattle.std.proofs.lemmas.Bool.{cases_lt}
use Rattle.std.proofs.lemmas.List.{take_more, take_all, length-map, length-append, map-append, get_or-map, get_or_append_left, get_or-append-add, take-append-le, append-nil, get_or_default}
use Rattle.std.proofs.lemmas.List.Concat.{flat_map-append, length-flat_map}
use Rattle.std.proofs.lemmas.List.Sums.{sum_by-append}
use Rattle.std.proofs.lemmas.List.Elements.{All-nil, All-append, All-cons, All-head, All-tail, All-map}
use Rattle.vortex_model.specs.LogicalType.{LogicalType, list, u64}
use Rattle.vortex_model.specs.Content.{Content, null, integer, tuple}
use Rattle.vortex_model.specs.Valid.{InRange}
use Rattle.vortex_arrays_model.specs.Layout.{Layout, bools, numbers, strings, constant, dictionary, fixed_lists, list_views, records, Valid, natural, number_in, len_of, array_type_of, content_at, rows_of, span, is_valid, nullability_by, IsSound, IsView, HasLength}
use Rattle.vortex_arrays_model.specs.Parts.{valid_in}
use Rattle.vortex_arrays_model.specs.Canonical.{items_of, start_of, IsCanonical, counts, IsLaidOut}
use Rattle.vortex_arrays_model.proofs.PicksLemmas.{eq_span}
use Rattle.vortex_arrays_model.proofs.RowsLemmas.{row_count}
use Rattle.vortex_arrays_model.proofs.RebuiltLemmas.{new_end_to_end}
use Rattle.vortex_arrays_builder.specs.Types.{IsPlainLayout}
use Rattle.vortex_arrays_concat.specs.EndToEnd.{IsEndToEnd, rows_of_arrays, rows_in_all}
use Rattle.vortex_arrays_concat.specs.Columns.{IsAt, validities, IsColumn, IsJoined}
use Rattle.vortex_arrays_concat.specs.FixedLists.{elements_in}
use Rattle.vortex_arrays_concat.specs.Lists.{naturals_in, starts_in, sizes_in, AreLists, starts_of_all, AreListsOf}
use Rattle.vortex_arrays_concat.proofs.ColumnLemmas.{HaveItems, item_at, items_count, place_of, at_one, at_below, at_within, rows_joined, rows_more, rows_snoc, lengths_joined, valid_at_place, kind_by_first, column_row}

-- ---- the parts of one array

naturals_back : (xs : List ℕ) → map natural (map pos xs) ≡ xs
naturals_back [] = refl
naturals_back (x ∷ xs) = ap (λ ys. x ∷ ys) (naturals_back xs)

same_naturals : (o : Layout) (xs : List ℕ) → o ≡ counts xs → xs ≡ naturals_in o
same_naturals o xs e = sym (ap naturals_in e ∙ naturals_back xs)

counted_so : (o : Layout) (xs : List ℕ) → o ≡ counts xs → o ≡ counts (naturals_in o)
counted_so o xs e = e ∙ ap counts (same_naturals o xs e)

pub lists_there : (a e o s : Layout) (f : Bool) (v : Valid) (xs ys : List ℕ) → a ≡ list_views e o s f v → IsSound a → o ≡ counts xs → s ≡ counts ys → AreLists a
lists_there a e o s f v xs ys is sound h k = subst AreLists (sym is) (counted_so o xs h, counted_so s ys k, subst IsSound is sound)

pub starts_there : (a e o s : Layout) (f : Bool) (v : Valid) (xs : List ℕ) → a ≡ list_views e o s f v → o ≡ counts xs → xs ≡ starts_in a
starts_there a e o s f v xs is h = same_naturals o xs h ∙ sym (ap starts_in is)

pub sizes_there : (a e o s : Layout) (f : Bool) (v : Valid) (xs : List ℕ) → a ≡ list_views e o s f v → s ≡ counts xs → xs ≡ sizes_in a
sizes_there a e o s f v xs is h = same_naturals s xs h ∙ sym (ap sizes_in is)

pub elements_there : (a e o s : Layout) (f : Bool) (v : Valid) → a ≡ list_views e o s f v → e ≡ elements_in a
elements_there a e o s f v is = sym (ap elements_in is)

pub ruleset parts_there = (lists_there, starts_there, sizes_there, elements_there)

-- a count, read
count_there : (xs : List ℕ) (i : ℕ) → i < length xs → content_at (counts xs) i ≡ integer (pos (get_or xs i 0))
count_there xs i l = ap integer (get_or-map pos xs i 0 (pos 0) l)

counts_len : (xs : List ℕ) → len_of (counts xs) ≡ length xs
counts_len xs = length-map xs pos

-- the parts of an array: the number of lists, where they are, and their values
pub record IsListed (a : Layout) : Type 0 where
  pub many_starts : length (starts_in a) ≡ len_of a
  pub many_sizes : length (sizes_in a) ≡ len_of a
  pub within : (i : ℕ) → i < len_of a → get_or (starts_in a) i 0 + get_or (sizes_in a) i 0 ≤ len_of (elements_in a)
  pub row : (i : ℕ) → i < len_of a → content_at a i ≡ cond (is_valid (valid_in a) i) (tuple (span (content_at (elements_in a)) (get_or (starts_in a) i 0) (get_or (sizes_in a) i 0))) null
  pub kind : array_type_of a ≡ list (array_type_of (elements_in a)) (nullability_by (valid_in a))

listed_views : (e o s : Layout) (f : Bool) (v : Valid) → AreLists (list_views e o s f v) → IsListed (list_views e o s f v)
listed_views e o s f v h =
    let os = naturals_in o in
    let ss = naturals_in s in
    let sound = h.2 in
    let many_os : length os ≡ len_of o = sym (ap len_of h.0 ∙ counts_len os) in
    let many_ss : length ss ≡ len_of o = sym (ap len_of h.1 ∙ counts_len ss) ∙ sound.5 in
    let offset : (i : ℕ) → i < len_of o → content_at o i ≡ integer (pos (get_or os i 0)) = λ i l. ap (λ x. content_at x i) h.0 ∙ count_there os i (subst (λ n. i < n) (sym many_os) l) in
    let size : (i : ℕ) → i < len_of o → content_at s i ≡ integer (pos (get_or ss i 0)) = λ i l. ap (λ x. content_at x i) h.1 ∙ count_there ss i (subst (λ n. i < n) (sym many_ss) l) in
    record {
      many_starts = many_os;
      many_sizes = many_ss;
      within = λ i l. subst (λ c. IsView (len_of e) c (integer (pos (get_or ss i 0)))) (offset i l) (subst (λ c. IsView (len_of e) (content_at o i) c) (size i l) (sound.7 i l));
      row = λ i l. (λ t. cond (is_valid v i) (tuple (span (content_at e) (number_in (offset i l t)) (number_in (size i l t)))) null);
      kind = refl;
    }

listed_so : (a : Layout) → AreLists a → IsListed a
listed_so (list_views e o s f v) h = listed_views e o s f v h
listed_so (bools bs v) h = absurd h
listed_so (numbers j zs v) h = absurd h
listed_so (strings x vs bs v) h = absurd h
listed_so (constant t r n) h = absurd h
listed_so (dictionary c v f) h = absurd h
listed_so (fixed_lists e t n v) h = absurd h
listed_so (records cs n v) h = absurd h

-- an array in plain layout has no gaps
abbrev offsets_of : Layout → Layout
offsets_of (list_views e o s f v) = o
offsets_of a = a

abbrev sizes_of : Layout → Layout
sizes_of (list_views e o s f v) = s
sizes_of a = a

abbrev HasNoGaps : Layout → Type 0
HasNoGaps a = IsCanonical (rows_of a) (starts_in a) (sizes_in a) (rows_of (elements_in a))

no_gaps_by : (e o s : Layout) (f : Bool) (v : Valid) → IsLaidOut e o s v (list_views e o s f v) → HasNoGaps (list_views e o s f v)
no_gaps_by e o s f v p =
    let os : p.offsets ≡ naturals_in o = same_naturals o p.offsets (ap offsets_of p.made) in
    let ss : p.sizes ≡ naturals_in s = same_naturals s p.sizes (ap sizes_of p.made) in
    let es : p.elements ≡ e = sym (ap elements_in p.made) in
    subst (λ xs. IsCanonical (rows_of (list_views e o s false v)) xs (naturals_in s) (rows_of e)) os
    (subst (λ xs. IsCanonical (rows_of (list_views e o s false v)) p.offsets xs (rows_of e)) ss
    (subst (λ x. IsCanonical (rows_of (list_views e o s false v)) p.offsets p.sizes (rows_of x)) es p.canonical))

no_gaps : (a : Layout) → AreLists a → IsPlainLayout a → HasNoGaps a
no_gaps (list_views e o s f v) h p = no_gaps_by e o s f v p.1
no_gaps (bools bs v) h p = absurd h
no_gaps (numbers j zs v) h p = absurd h
no_gaps (strings x vs bs v) h p = absurd h
no_gaps (constant t r n) h p = absurd h
no_gaps (dictionary c v f) h p = absurd h
no_gaps (fixed_lists e t n v) h p = absurd h
no_gaps (records cs n v) h p = absurd h

-- ---- one more array

starts_snoc : (n : ℕ) (ls : List Layout) (a : Layout) → starts_of_all n (ls ++ a ∷ []) ≡ starts_of_all n ls ++ map (λ start. start + (n + rows_in_all (map elements_in ls))) (starts_in a)
starts_snoc n [] a = append-nil (map (λ start. start + n) (starts_in a)) ∙ ap (λ m. map (λ start. start + m) (starts_in a)) (let e : n ≡ n + 0 = omega arith in e)
starts_snoc n (b ∷ ls) a =
    let first = map (λ start. start + n) (starts_in b) in
    let more = rows_more (elements_in b) (map elements_in ls) in
    let sum : n + len_of (elements_in b) + rows_in_all (map elements_in ls) ≡ n + rows_in_all (map elements_in (b ∷ ls)) = omega (arith, more) in
    ap (λ xs. first ++ xs) (starts_snoc (n + len_of (elements_in b)) ls a)
    ∙ sym (append_assoc first (starts_of_all (n + len_of (elements_in b)) ls) (map (λ start. start + (n + len_of (elements_in b) + rows_in_all (map elements_in ls))) (starts_in a)))
    ∙ ap (λ m. (first ++ starts_of_all (n + len_of (elements_in b)) ls) ++ map (λ start. start + m) (starts_in a)) sum

wrapped : (xs : List ℕ) (n m : ℕ) → All (λ x. x ≤ m) xs → m + n < 2 ^ 64 → map (λ x. (x + n) % 2 ^ 64) xs ≡ map (λ x. x + n) xs
wrapped [] n m h l = refl
wrapped (x ∷ xs) n m h l =
    let first : x ≤ m = All-head (λ y. y ≤ m) x xs h in
    let small : x + n < 2 ^ 64 = omega (arith, first, l) in
    λ t. mod-eq_of_lt small t ∷ wrapped xs n m (All-tail (λ y. y ≤ m) x xs h) l t

starts_small : (a : Layout) → AreLists a → All (λ x. x ≤ len_of (elements_in a)) (starts_in a)
starts_small a h = λ i d l.
    let k = listed_so a h in
    let w = k.within i (subst (λ n. i < n) k.many_starts l) in
    let e = get_or_default (starts_in a) i d 0 l in
    omega (arith, w, e)

pub no_lists : (ls : List Layout) → AreListsOf (take 0 ls) [] [] [] 0
no_lists ls = record { kinds = All-nil AreLists; elements = refl; offsets = refl; sizes = refl; total = refl }

pub more_lists : (ls : List Layout) (i : ℕ) (a e c : Layout) (es fs : List Layout) (os ss starts counted moved os_new ss_new : List ℕ) (total end : ℕ) → AreListsOf (take i ls) es os ss total → i < length ls → a ≡ get_or ls i a → AreLists a → e ≡ elements_in a → starts ≡ starts_in a → counted ≡ sizes_in a → end ≡ total + len_of e → end < 2 ^ 64
    → moved ≡ map (λ start. (start + total) % 2 ^ 64) starts → os_new ≡ os ++ moved → ss_new ≡ ss ++ counted → c ≡ e → fs ≡ es ++ c ∷ [] → AreListsOf (take (i + 1) ls) fs os_new ss_new end
more_lists ls i a e c es fs os ss starts counted moved os_new ss_new total end h l is k elements begin sized sum room m os_made ss_made copy fs_made =
    let before = take i ls in
    let front : take (i + 1) ls ≡ before ++ a ∷ [] = take_more ls i a l ∙ ap (λ y. before ++ y ∷ []) (sym is) in
    let there : len_of e ≡ len_of (elements_in a) = ap len_of elements in
    let behind : total ≡ 0 + rows_in_all (map elements_in before) = let x = h.total in omega (arith, x) in
    let unwrapped : moved ≡ map (λ start. start + total) (starts_in a) =
    m ∙ ap (map (λ start. (start + total) % 2 ^ 64)) begin ∙ wrapped (starts_in a) total (len_of (elements_in a)) (starts_small a k) (omega (arith, sum, room, there)) in
    subst (λ xs. AreListsOf xs fs os_new ss_new end) (sym front) (record {
      kinds = All-append AreLists before (a ∷ []) h.kinds (All-cons AreLists a [] k (All-nil AreLists));
      elements = fs_made ∙ (λ t. h.elements t ++ (copy ∙ elements) t ∷ []) ∙ sym (map-append elements_in before (a ∷ []));
      offsets = os_made ∙ (λ t. h.offsets t ++ unwrapped t) ∙ ap (λ n. starts_of_all 0 before ++ map (λ start. start + n) (starts_in a)) behind ∙ sym (starts_snoc 0 before a);
      sizes = ss_made ∙ (λ t. h.sizes t ++ sized t) ∙ ap (λ xs. flat_map sizes_in before ++ xs) (sym (append-nil (sizes_in a))) ∙ sym (flat_map-append sizes_in before (a ∷ []));
      total = sum ∙ (λ t. h.total t + there t) ∙ sym (rows_snoc (map elements_in before) (elements_in a)) ∙ ap rows_in_all (sym (map-append elements_in before (a ∷ [])));
    })

pub all_lists : (ls : List Layout) (i : ℕ) (es : List Layout) (os ss : List ℕ) (total : ℕ) → AreListsOf (take i ls) es os ss total → length ls ≤ i → AreListsOf ls es os ss total
all_lists ls i es os ss total h l = subst (λ xs. AreListsOf xs es os ss total) (take_all i ls l) h

pub ruleset gathered = (no_lists, more_lists, all_lists)

-- ---- no gaps between the lists of all arrays

abbrev many : Content → ℕ
many row = length (items_of row)

canonical_both : (rows more : List Content) (os ps ss ts : List ℕ) (es fs : List Content) → IsCanonical rows os ss es → IsCanonical more ps ts fs → IsCanonical (rows ++ more) (os ++ map (λ p. p + length es) ps) (ss ++ ts) (es ++ fs)
canonical_both rows more os ps ss ts es fs h k =
    let n : ℕ = length rows in
    let moved = map (λ p. p + length es) ps in
    let all = length-append rows more in
    let items : length es ≡ sum_by many rows = ap (λ xs. length xs) h.end_to_end ∙ length-flat_map items_of rows in
    let offset : (i : ℕ) → (i < n) ⊎ (n ≤ i) → i < length (rows ++ more) → get_or (os ++ moved) i 0 ≡ start_of (rows ++ more) i = λ i c l. elim c [
      | inl b ↦
          get_or_append_left os moved 0 i (subst (λ m. i < m) (sym h.many_offsets) b) ∙ h.offset i b
          ∙ ap (λ r. sum_by many r) (sym (take-append-le i rows more (omega (arith, b))))
      | inr b ↦
          let j : ℕ = i - n in
          let split : i ≡ n + j = omega (arith, b) in
          let inside : j < length more = omega (arith, split, l, all) in
          let there : i ≡ length os + j = split ∙ ap (λ m. m + j) (sym h.many_offsets) in
          ap (λ m. get_or (os ++ moved) m 0) there ∙ get_or-append-add os moved j 0
          ∙ get_or-map (λ p. p + length es) ps j 0 0 (subst (λ m. j < m) (sym k.many_offsets) inside)
          ∙ ap (λ x. x + length es) (k.offset j inside)
          ∙ (let s = sum_by-append many rows (take j more) in let e : start_of more j + length es ≡ sum_by many (rows ++ take j more) = omega (arith, s, items) in e)
          ∙ ap (λ r. sum_by many r) (sym (take-append-add rows more j))
          ∙ ap (λ m. sum_by many (take m (rows ++ more))) (sym split)
    ] in
    let size : (i : ℕ) → (i < n) ⊎ (n ≤ i) → i < length (rows ++ more) → get_or (ss ++ ts) i 0 ≡ many (get_or (rows ++ more) i null) = λ i c l. elim c [
      | inl b ↦
          get_or_append_left ss ts 0 i (subst (λ m. i < m) (sym h.many_sizes) b) ∙ h.size i b
          ∙ ap many (sym (get_or_append_left rows more null i b))
      | inr b ↦
          let j : ℕ = i - n in
          let split : i ≡ n + j = omega (arith, b) in
          let inside : j < length more = omega (arith, split, l, all) in
          ap (λ m. get_or (ss ++ ts) m 0) (split ∙ ap (λ m. m + j) (sym h.many_sizes)) ∙ get_or-append-add ss ts j 0
          ∙ k.size j inside
          ∙ ap many (sym (get_or-append-add rows more j null)) ∙ ap (λ m. many (get_or (rows ++ more) m null)) (sym split)
    ] in
    record {
      many_offsets = length-append os moved ∙ (λ t. h.many_offsets t + (length-map ps (λ p. p + length es) ∙ k.many_offsets) t) ∙ sym all;
      many_sizes = length-append ss ts ∙ (λ t. h.many_sizes t + k.many_sizes t) ∙ sym all;
      offset = λ i l. offset i (cases_lt i n) l;
      size = λ i l. size i (cases_lt i n) l;
      end_to_end = (λ t. h.end_to_end t ++ k.end_to_end t) ∙ sym (flat_map-append items_of rows more);
    }

sums : (xs : List ℕ) (m n : ℕ) → map (λ x. x + (m + n)) xs ≡ map (λ p. p + n) (map (λ x. x + m) xs)
sums [] m n = refl
sums (x ∷ xs) m n = let e : x + (m + n) ≡ x + m + n = omega arith in λ t. e t ∷ sums xs m n t

zeros : (xs : List ℕ) → map (λ x. x + 0) xs ≡ xs
zeros [] = refl
zeros (x ∷ xs) = let e : x + 0 ≡ x = omega arith in λ t. e t ∷ zeros xs t

starts_moved : (n m : ℕ) (ls : List Layout) → starts_of_all (m + n) ls ≡ map (λ p. p + n) (starts_of_all m ls)
starts_moved n m [] = refl
starts_moved n m (a ∷ ls) =
    let here : map (λ x. x + (m + n)) (starts_in a) ≡ map (λ p. p + n) (map (λ x. x + m) (starts_in a)) = sums (starts_in a) m n in
    let sum : m + n + len_of (elements_in a) ≡ m + len_of (elements_in a) + n = omega arith in
    (λ t. here t ++ (ap (λ k. starts_of_all k ls) sum ∙ starts_moved n (m + len_of (elements_in a)) ls) t)
    ∙ sym (map-append (λ p. p + n) (map (λ x. x + m) (starts_in a)) (starts_of_all (m + len_of (elements_in a)) ls))

all_without_gaps : (ls : List Layout) → All AreLists ls → All IsPlainLayout ls → IsCanonical (rows_of_arrays ls) (starts_of_all 0 ls) (flat_map sizes_in ls) (rows_of_arrays (map elements_in ls))
all_without_gaps [] h p = record { many_offsets = refl; many_sizes = refl; offset = λ i l. absurd (omega (arith, l)); size = λ i l. absurd (omega (arith, l)); end_to_end = refl }
all_without_gaps (a ∷ ls) h p =
    let rest = all_without_gaps ls (All-tail AreLists a ls h) (All-tail IsPlainLayout a ls p) in
    let first = no_gaps a (All-head AreLists a ls h) (All-head IsPlainLayout a ls p) in
    let elements = rows_of (elements_in a) in
    let count : length elements ≡ len_of (elements_in a) = row_count (elements_in a) in
    let starts : starts_in a ++ map (λ q. q + length elements) (starts_of_all 0 ls) ≡ starts_of_all 0 (a ∷ ls) =
    (λ t. sym (zeros (starts_in a)) t ++ (ap (λ n. map (λ q. q + n) (starts_of_all 0 ls)) count ∙ sym (starts_moved (len_of (elements_in a)) 0 ls)) t) in
    subst (λ xs. IsCanonical (rows_of a ++ rows_of_arrays ls) xs (sizes_in a ++ flat_map sizes_in ls) (elements ++ rows_of_arrays (map elements_in ls))) starts
    (canonical_both (rows_of a) (rows_of_arrays ls) (starts_in a) (starts_of_all 0 ls) (sizes_in a) (flat_map sizes_in ls) elements (rows_of_arrays (map elements_in ls)) first rest)

-- ---- where a list is

-- the elements of array a begin at element n of all m
pub record Base (ls : List Layout) (p : ℕ) (a : Layout) (i n m : ℕ) : Type 0 where
  pub base : ℕ
  pub start : get_or (starts_of_all n ls) p 0 ≡ get_or (starts_in a) i 0 + (n + base)
  pub room : base + len_of (elements_in a) ≤ m
  pub at : (j : ℕ) → j < len_of (elements_in a) → IsAt (map elements_in ls) (base + j) (elements_in a) j

base_of : (n : ℕ) (ls : List Layout) (p : ℕ) (a : Layout) (i : ℕ) → All AreLists ls → IsAt ls p a i → Base ls p a i n (rows_in_all (map elements_in ls))
base_of n [] p a i h at = absurd at
base_of n (b ∷ ls) p a i h (inl at) =
    let k = listed_so b (All-head AreLists b ls h) in
    let many_rows = rows_more (elements_in b) (map elements_in ls) in
    let moved = map (λ x. x + n) (starts_in b) in
    let small : i < length (starts_in b) = subst (λ m. i < m) (sym k.many_starts) at.2 in
    let there : i < length moved = subst (λ m. i < m) (sym (length-map (starts_in b) (λ x. x + n))) small in
    let zero_more : n ≡ n + 0 = omega arith in
    record {
      base = 0;
      start = ap (λ q. get_or (moved ++ starts_of_all (n + len_of (elements_in b)) ls) q 0) at.1
          ∙ get_or_append_left moved (starts_of_all (n + len_of (elements_in b)) ls) 0 i there
          ∙ get_or-map (λ x. x + n) (starts_in b) i 0 0 small
          ∙ (λ t. get_or (starts_in (sym at.0 t)) i 0 + zero_more t);
      room = let e = ap (λ c. len_of (elements_in c)) at.0 in omega (arith, many_rows, e);
      at = λ j l. inl (ap elements_in at.0, (let e : 0 + j ≡ j = omega arith in e), subst (λ c. j < len_of (elements_in c)) at.0 l);
    }
base_of n (b ∷ ls) p a i h (inr at) =
    let k = listed_so b (All-head AreLists b ls h) in
    let len : ℕ = len_of (elements_in b) in
    let next = base_of (n + len) ls at.0 a i (All-tail AreLists b ls h) at.2 in
    let many_rows = rows_more (elements_in b) (map elements_in ls) in
    let moved = map (λ x. x + n) (starts_in b) in
    let count : length moved ≡ len_of b = length-map (starts_in b) (λ x. x + n) ∙ k.many_starts in
    let sum : n + len + next.base ≡ n + (len + next.base) = omega arith in
    let next_room = next.room in
    record {
      base = len + next.base;
      start = ap (λ q. get_or (moved ++ starts_of_all (n + len) ls) q 0) (at.1 ∙ ap (λ m. m + at.0) (sym count))
          ∙ get_or-append-add moved (starts_of_all (n + len) ls) at.0 0
          ∙ next.start ∙ ap (λ m. get_or (starts_in a) i 0 + m) sum;
      room = omega (arith, many_rows, next_room);
      at = λ j l. inr (next.base + j, (let e : len + next.base + j ≡ len + (next.base + j) = omega arith in e), next.at j l);
    }

have_sizes : (ls : List Layout) → All AreLists ls → HaveItems sizes_in ls
have_sizes ls h = λ i d l. (listed_so (get_or ls i d) (h i d l)).many_sizes

starts_count : (n : ℕ) (ls : List Layout) → All AreLists ls → length (starts_of_all n ls) ≡ rows_in_all ls
starts_count n [] h = refl
starts_count n (a ∷ ls) h =
    length-append (map (λ x. x + n) (starts_in a)) (starts_of_all (n + len_of (elements_in a)) ls)
    ∙ (λ t. (length-map (starts_in a) (λ x. x + n) ∙ (listed_so a (All-head AreLists a ls h)).many_starts) t + starts_count (n + len_of (elements_in a)) ls (All-tail AreLists a ls h) t)
    ∙ sym (rows_more a ls)

abbrev element_of : LogicalType → LogicalType
element_of (list k n) = k
element_of k = k

module _ (ls es : List Layout) (os ss : List ℕ) (total : ℕ) (e : Layout) (v : Valid) (some : 0 < length ls) (h : AreListsOf ls es os ss total) (plain : All IsPlainLayout ls) (joined : IsJoined es e) (made : IsEndToEnd (validities ls) v) where
  abbrev new : Layout
  new = list_views e (counts os) (counts ss) true v

  elements_joined : IsJoined (map elements_in ls) e
  elements_joined = subst (λ xs. IsJoined xs e) h.elements joined

  many_offsets : length os ≡ rows_in_all ls
  many_offsets = ap (λ xs. length xs) h.offsets ∙ starts_count 0 ls h.kinds

  many_sizes : length ss ≡ rows_in_all ls
  many_sizes = ap (λ xs. length xs) h.sizes ∙ items_count sizes_in ls (have_sizes ls h.kinds)

  many_new : len_of new ≡ rows_in_all ls
  many_new = counts_len os ∙ many_offsets

  base_at : (p : ℕ) (a : Layout) (i : ℕ) → IsAt ls p a i → Base ls p a i 0 (rows_in_all (map elements_in ls))
  base_at p a i at = base_of 0 ls p a i h.kinds at

  offset_at : (p : ℕ) (a : Layout) (i : ℕ) (at : IsAt ls p a i) → content_at (counts os) p ≡ integer (pos (get_or (starts_in a) i 0 + (base_at p a i at).base))
  offset_at p a i at =
      count_there os p (subst (λ n. p < n) (sym many_offsets) (at_below ls p a i at))
      ∙ ap (λ x. integer (pos x)) (ap (λ xs. get_or xs p 0) h.offsets ∙ (base_at p a i at).start ∙ (let b = (base_at p a i at).base in let x : ℕ = get_or (starts_in a) i 0 in let z : x + (0 + b) ≡ x + b = omega arith in z))

  size_at : (p : ℕ) (a : Layout) (i : ℕ) → IsAt ls p a i → content_at (counts ss) p ≡ integer (pos (get_or (sizes_in a) i 0))
  size_at p a i at =
      count_there ss p (subst (λ n. p < n) (sym many_sizes) (at_below ls p a i at))
      ∙ ap (λ x. integer (pos x)) (ap (λ xs. get_or xs p 0) h.sizes ∙ item_at sizes_in ls p a i 0 (have_sizes ls h.kinds) at)

  view_at : (p : ℕ) (a : Layout) (i : ℕ) → IsAt ls p a i → IsView (len_of e) (content_at (counts os) p) (content_at (counts ss) p)
  view_at p a i at =
      let b = base_at p a i at in
      let k = listed_so a (at_one AreLists ls p a i h.kinds at) in
      let w = k.within i (at_within ls p a i at) in
      let room = b.room in
      let all = elements_joined.count in
      let x : ℕ = get_or (starts_in a) i 0 in
      let y : ℕ = get_or (sizes_in a) i 0 in
      let inside : x + b.base + y ≤ len_of e = omega (arith, w, room, all) in
      subst (λ c. IsView (len_of e) c (content_at (counts ss) p)) (sym (offset_at p a i at))
      (subst (λ c. IsView (len_of e) (integer (pos (x + b.base))) c) (sym (size_at p a i at)) inside)

  rows_new : (t : LogicalType) → All (λ a. array_type_of a ≡ t) (map elements_in ls) → rows_of new ≡ rows_of_arrays ls
  rows_new t types = rows_joined ls new many_new (λ p a i at.
      let b = base_at p a i at in
      let k = listed_so a (at_one AreLists ls p a i h.kinds at) in
      let small = at_within ls p a i at in
      let w = k.within i small in
      let x : ℕ = get_or (starts_in a) i 0 in
      let y : ℕ = get_or (sizes_in a) i 0 in
      ap (λ g. cond g (tuple (span (content_at e) (number_in (content_at (counts os) p)) (number_in (content_at (counts ss) p)))) null) (valid_at_place ls v p a i (at_below ls p a i at) made at)
      ∙ (λ q. cond (is_valid (valid_in a) i) (tuple (span (content_at e) (number_in (offset_at p a i at q)) (number_in (size_at p a i at q)))) null)
      ∙ ap (λ c. cond (is_valid (valid_in a) i) (tuple c) null) (eq_span (content_at e) (content_at (elements_in a)) (x + b.base) x y (λ j l.
      let there : x + j < len_of (elements_in a) = omega (arith, l, w) in
      let same : x + b.base + j ≡ b.base + (x + j) = omega arith in
      ap (content_at e) same
      ∙ column_row (map elements_in ls) t e (b.base + (x + j)) (elements_in a) (x + j) elements_joined types (b.at (x + j) there)))
      ∙ sym (k.row i small))

  element_types : (t : LogicalType) → All (λ a. array_type_of a ≡ t) ls → All (λ a. array_type_of a ≡ element_of t) (map elements_in ls)
  element_types t same = All-map (λ a. array_type_of a ≡ element_of t) elements_in ls (λ i d l. ap element_of (sym (listed_so (get_or ls i d) (h.kinds i d l)).kind ∙ same i d l))

  no_gaps_new : (t : LogicalType) → All (λ a. array_type_of a ≡ t) ls → IsCanonical (rows_of new) os ss (rows_of e)
  no_gaps_new t same =
      let types = element_types t same in
      subst (λ xs. IsCanonical xs os ss (rows_of e)) (sym (rows_new (element_of t) types))
      (subst (λ xs. IsCanonical (rows_of_arrays ls) os ss xs) (sym (elements_joined.column (element_of t) types).rows)
      (subst (λ xs. IsCanonical (rows_of_arrays ls) xs ss (rows_of_arrays (map elements_in ls))) (sym h.offsets)
      (subst (λ xs. IsCanonical (rows_of_arrays ls) (starts_of_all 0 ls) xs (rows_of_arrays (map elements_in ls))) (sym h.sizes)
      (all_without_gaps ls h.kinds plain))))

  pub views_fit : (t : LogicalType) → All (λ a. array_type_of a ≡ t) ls → All (InRange u64) (map pos os) → All (InRange u64) (map pos ss) → IsSound e → IsSound new
  views_fit t same k_os k_ss sound = (
    sound,
    (k_os, tt),
    (k_ss, tt),
    tt,
    tt,
    counts_len ss ∙ many_sizes ∙ sym many_new,
    subst (HasLength v) (lengths_joined ls ∙ sym many_new) made.fits,
    (λ p l.
        let place = place_of ls p (subst (λ n. p < n) many_new l) in
        view_at p place.array place.row place.at),
    (λ _. new_end_to_end e (counts os) (counts ss) true v e os ss (no_gaps_new t same)),
  )

  views_column : (t : LogicalType) → All (λ a. array_type_of a ≡ t) ls → IsColumn t ls new
  views_column t same =
      let types = element_types t same in
      let inside = elements_joined.column (element_of t) types in
      record {
        kind = kind_by_first (λ m. list (array_type_of e) m) ls v t some (λ m. refl) (λ i d l.
            let k = listed_so (get_or ls i d) (h.kinds i d l) in
            k.kind ∙ ap (λ x. list x (nullability_by (valid_in (get_or ls i d)))) (ap element_of (sym k.kind ∙ same i d l) ∙ sym inside.kind)) made same;
        rows = rows_new (element_of t) types;
        plain = (
          inside.plain,
          record { offsets = os; sizes = ss; elements = e; made = refl; kind = refl; canonical = no_gaps_new t same },
        );
      }

  pub views_joined : (r : Layout) → r ≡ new → IsJoined ls r
  views_joined r made_so = record {
    count = ap len_of made_so ∙ many_new;
    column = λ t same. subst (IsColumn t ls) (sym made_so) (views_column t same);
  }

pub ruleset lists = (views_fit, views_joined)
