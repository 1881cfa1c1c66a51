-- Lists put end to end, row by row.
use Rattle.std.proofs.Common.{◌≡◌, ◌<◌, ◌≤◌, ◌+◌, ◌^◌, ℕ, zero, suc, pos, Bool, true, false, cond, List, [], ◌∷◌, ◌++◌, length, map, take, get_or, sum_by, refl, sym, ap, subst, ◌∙◌, arith, ◌⊎◌, inl, inr, ⊎_elim}
use Rattle.std.specs.List.{flat_map, All, range_with_len}
use Rattle.std.proofs.lemmas.Bool.{cases_eq}
use Rattle.std.proofs.lemmas.Int.{ints}
use Rattle.std.proofs.lemmas.List.{get_or-map, map-id, length-append, length-map, map-append, append-nil, take_more, take_all, get_or_append_left, get_or_push, take-append-le, take_at}
use Rattle.std.proofs.lemmas.List.Concat.{flat_map-append, length-flat_map}
use Rattle.std.proofs.lemmas.List.FromFn.{fill_by_all, map-range_with_len_more, get_or-map-range_with_len, length-map-range_with_len, length-range_with_len, get_or-range_with_len}
use Rattle.std.proofs.lemmas.List.Elements.{All-append}
use Rattle.vortex_model.specs.LogicalType.{LogicalType, integer_type, u64}
use Rattle.vortex_model.specs.Content.{Content, null, integer, tuple}
use Rattle.vortex_model.specs.Valid.{InRange}
use Rattle.vortex_arrays_model.specs.Layout.{Layout, dictionary, list_views, Valid, len_of, array_type_of, content_at, is_valid, number_in, span, pick, rows_of, IsOffsets, IsInteger, IsCode, IsSound}
use Rattle.vortex_arrays_model.specs.Canonical.{listed, items_of, start_of, IsCanonical, counts}
use Rattle.vortex_arrays_model.proofs.PicksLemmas.{no_flag}
use Rattle.vortex_arrays_model.proofs.SomeLemmas.{eq_type}

pub offsets_are_integers : (k : LogicalType) → IsOffsets k → IsInteger k
offsets_are_integers (integer_type p n) h = tt
offsets_are_integers k h = absurd h

pub listed-span : (f : ℕ → Content) (i n : ℕ) → listed (span f i n) ≡ map f (range_with_len i n)
listed-span f i zero = refl
listed-span f i (suc n) = ap (λ cs. f i ∷ cs) (listed-span f (i + 1) n)

pub All-range : (a n m : ℕ) → a + n ≤ m → All (λ j. j < m) (range_with_len a n)
All-range a n m h = λ k d l. let l' : k < n = subst (λ x. k < x) (length-range_with_len a n) l in rw (get_or-range_with_len a n k d l') (omega arith)

pub range_more : (a n : ℕ) → range_with_len a (n + 1) ≡ range_with_len a n ++ (a + n) ∷ []
range_more a n = sym (map-id (range_with_len a (n + 1))) ∙ map-range_with_len_more (λ x. x) a n (a + n) refl ∙ ap (λ l. l ++ (a + n) ∷ []) (map-id (range_with_len a n))

pub items_valid : (e o s : Layout) (f : Bool) (v : Valid) (i start size : ℕ) → is_valid v i ≡ true → start ≡ number_in (content_at o i) → size ≡ number_in (content_at s i) → items_of (content_at (list_views e o s f v) i) ≡ map (content_at e) (range_with_len start size)
items_valid e o s f v i start size t p q = ap (λ b. items_of (cond b (tuple (span (λ j. content_at e j) (number_in (content_at o i)) (number_in (content_at s i)))) null)) t ∙ listed-span (content_at e) (number_in (content_at o i)) (number_in (content_at s i)) ∙ (λ j. map (content_at e) (range_with_len (sym p j) (sym q j)))

pub items_null : (e o s : Layout) (f : Bool) (v : Valid) (i : ℕ) → is_valid v i ≡ false → items_of (content_at (list_views e o s f v) i) ≡ []
items_null e o s f v i t = ap (λ b. items_of (cond b (tuple (span (λ j. content_at e j) (number_in (content_at o i)) (number_in (content_at s i)))) null)) t

-- an index of a list with one more element: before the last, or the last
pub last_or_before : (i n : ℕ) → i < n + 1 → (i < n) ⊎ (i ≡ n)
last_or_before i n h = ⊎_elim (λ e. inr e) (λ ne. inl (omega (arith, ne))) (cases_eq i n)

abbrev many : Content → ℕ
many row = length (items_of row)

-- one more row
canonical_push : (rows : List Content) (os ss : List ℕ) (es : List Content) (c : Content) → IsCanonical rows os ss es → IsCanonical (rows ++ c ∷ []) (os ++ length es ∷ []) (ss ++ length (items_of c) ∷ []) (es ++ items_of c)
canonical_push rows os ss es c h =
    let offset_before : (i : ℕ) → i < length rows → get_or (os ++ length es ∷ []) i 0 ≡ start_of (rows ++ c ∷ []) i = λ i l.
    let short : i ≤ length rows = omega arith in
    get_or_append_left os (length es ∷ []) 0 i (subst (λ n. i < n) (sym h.many_offsets) l) ∙ h.offset i l ∙ ap (λ r. sum_by many r) (sym (take-append-le i rows (c ∷ []) short)) in
    let offset_last : (i : ℕ) → i ≡ length rows → get_or (os ++ length es ∷ []) i 0 ≡ start_of (rows ++ c ∷ []) i = λ i e.
    get_or_push os (length es) 0 i (h.many_offsets ∙ sym e) ∙ ap length h.end_to_end ∙ length-flat_map items_of rows ∙ ap (λ r. sum_by many r) (sym (take_at rows (c ∷ []) i (sym e))) in
    let size_before : (i : ℕ) → i < length rows → get_or (ss ++ length (items_of c) ∷ []) i 0 ≡ length (items_of (get_or (rows ++ c ∷ []) i null)) = λ i l.
    get_or_append_left ss (length (items_of c) ∷ []) 0 i (subst (λ n. i < n) (sym h.many_sizes) l) ∙ h.size i l ∙ ap (λ r. length (items_of r)) (sym (get_or_append_left rows (c ∷ []) null i l)) in
    let size_last : (i : ℕ) → i ≡ length rows → get_or (ss ++ length (items_of c) ∷ []) i 0 ≡ length (items_of (get_or (rows ++ c ∷ []) i null)) = λ i e.
    get_or_push ss (length (items_of c)) 0 i (h.many_sizes ∙ sym e) ∙ ap (λ r. length (items_of r)) (sym (get_or_push rows c null i (sym e))) in
    record {
      many_offsets = length-append os (length es ∷ []) ∙ ap (λ n. n + 1) h.many_offsets ∙ sym (length-append rows (c ∷ []));
      many_sizes = length-append ss (length (items_of c) ∷ []) ∙ ap (λ n. n + 1) h.many_sizes ∙ sym (length-append rows (c ∷ []));
      offset = λ i l. ⊎_elim (offset_before i) (offset_last i) (last_or_before i (length rows) (omega (arith, l, length-append rows (c ∷ []))));
      size = λ i l. ⊎_elim (size_before i) (size_last i) (last_or_before i (length rows) (omega (arith, l, length-append rows (c ∷ []))));
      end_to_end = ap (λ l. l ++ items_of c) h.end_to_end ∙ ap (λ l. flat_map items_of rows ++ l) (sym (append-nil (items_of c))) ∙ sym (flat_map-append items_of rows (c ∷ []));
    }

-- The rows so far, where the elements so far are those at indices: row i adds the indices of its
-- items.
pub canonical_more : (a : Layout) (f : ℕ → Content) (os ss ps : List ℕ) (i start size : ℕ) → IsCanonical (take i (rows_of a)) os ss (map f ps) → i < len_of a → items_of (content_at a i) ≡ map f (range_with_len start size) → IsCanonical (take (i + 1) (rows_of a)) (os ++ length ps ∷ []) (ss ++ size ∷ []) (map f (ps ++ range_with_len start size))
canonical_more a f os ss ps i start size h l e =
    let within : i < length (rows_of a) = subst (λ n. i < n) (sym (length-map-range_with_len (content_at a) 0 (len_of a))) l in
    let here : get_or (rows_of a) i null ≡ content_at a i = get_or-map-range_with_len (content_at a) 0 (len_of a) i i null l (omega arith) in
    let next : take (i + 1) (rows_of a) ≡ take i (rows_of a) ++ content_at a i ∷ [] = take_more (rows_of a) i null within ∙ ap (λ c. take i (rows_of a) ++ c ∷ []) here in
    let much : length (items_of (content_at a i)) ≡ size = ap length e ∙ length-map-range_with_len f start size in
    let before : length (map f ps) ≡ length ps = length-map ps f in
    subst (λ r. IsCanonical r (os ++ length ps ∷ []) (ss ++ size ∷ []) (map f (ps ++ range_with_len start size))) (sym next)
    (subst (λ n. IsCanonical (take i (rows_of a) ++ content_at a i ∷ []) (os ++ n ∷ []) (ss ++ size ∷ []) (map f (ps ++ range_with_len start size))) before
    (subst (λ n. IsCanonical (take i (rows_of a) ++ content_at a i ∷ []) (os ++ length (map f ps) ∷ []) (ss ++ n ∷ []) (map f (ps ++ range_with_len start size))) much
    (subst (λ es. IsCanonical (take i (rows_of a) ++ content_at a i ∷ []) (os ++ length (map f ps) ∷ []) (ss ++ length (items_of (content_at a i)) ∷ []) es) (ap (λ xs. map f ps ++ xs) e ∙ sym (map-append f ps (range_with_len start size)))
    (canonical_push (take i (rows_of a)) os ss (map f ps) (content_at a i) h))))

-- no row yet, and all rows
pub canonical_none : (a : Layout) (f : ℕ → Content) → IsCanonical (take 0 (rows_of a)) [] [] (map f [])
canonical_none a f = record { many_offsets = refl; many_sizes = refl; offset = λ i l. absurd (omega arith); size = λ i l. absurd (omega arith); end_to_end = refl }

pub canonical_all : (a : Layout) (n : ℕ) (os ss : List ℕ) (es : List Content) → len_of a ≤ n → IsCanonical (take n (rows_of a)) os ss es → IsCanonical (rows_of a) os ss es
canonical_all a n os ss es l h = subst (λ r. IsCanonical r os ss es) (take_all n (rows_of a) (subst (λ k. k ≤ n) (sym (length-map-range_with_len (content_at a) 0 (len_of a))) l)) h

pub ruleset row_items = (items_valid, items_null, offsets_are_integers)

pub ruleset canonical = (canonical_more, canonical_none, canonical_all, All-range, All-append)

-- the items at indices, by a dictionary of these
pub positions_fit : (xs : List ℕ) (n : ℕ) → All (λ j. j < n) xs → n < 2 ^ 64 → All (InRange u64) (map pos xs)
positions_fit xs n h m = λ k d l.
    let l' : k < length xs = subst (λ x. k < x) (length-map xs pos) l in
    let small : get_or xs k 0 < n = h k 0 l' in
    rw (get_or-map pos xs k 0 d l') (record { from = omega (arith, ints); to = omega (arith, ints) })

pub naturals_fit : (xs : List ℕ) → ((k : ℕ) → get_or xs k 0 < 2 ^ 64) → All (InRange u64) (map pos xs)
naturals_fit xs h = λ k d l.
    let l' : k < length xs = subst (λ x. k < x) (length-map xs pos) l in
    let small : get_or xs k 0 < 2 ^ 64 = h k in
    rw (get_or-map pos xs k 0 d l') (record { from = omega (arith, ints); to = omega (arith, ints) })

number_at : (xs : List ℕ) (k : ℕ) → k < length xs → get_or (map pos xs) k (pos 0) ≡ pos (get_or xs k 0)
number_at xs k l = get_or-map pos xs k 0 (pos 0) l

pub positions_sound : (a : Layout) (xs : List ℕ) → IsSound a → All (λ j. j < len_of a) xs → len_of a < 2 ^ 64 → IsSound (dictionary (counts xs) a false)
positions_sound a xs s h m = (
  (positions_fit xs (len_of a) h m, tt),
  s,
  tt,
  (λ i l. let l' : i < length xs = subst (λ x. i < x) (length-map xs pos) l in subst (λ z. IsCode (len_of a) (integer z)) (sym (number_at xs i l')) (h i 0 l')),
  (λ t. no_flag t),
)

pub positions_kind : (a : Layout) (xs : List ℕ) → array_type_of (dictionary (counts xs) a false) ≡ array_type_of a
positions_kind a xs = eq_type (array_type_of a)

pub positions_rows : (a : Layout) (xs : List ℕ) → rows_of (dictionary (counts xs) a false) ≡ map (content_at a) xs
positions_rows a xs = sym (fill_by_all (content_at (dictionary (counts xs) a false)) (map (content_at a) xs) (length (map pos xs)) null (length-map xs (content_at a) ∙ sym (length-map xs pos))
    (λ k l. let l' : k < length xs = subst (λ x. k < x) (length-map xs pos) l in get_or-map (content_at a) xs k 0 null l' ∙ ap (λ z. pick (integer z) (λ j. content_at a j)) (sym (number_at xs k l'))))

pub ruleset by_positions = (positions_fit, positions_sound, positions_kind, positions_rows)
