-- A rebuilt list view: its rows, its soundness and its flag.
use Rattle.std.proofs.Common.{◌≡◌, ◌<◌, ◌≤◌, ◌+◌, ℕ, zero, suc, pos, Bool, true, false, cond, List, [], ◌∷◌, length, map, take, get_or, refl, sym, ap, subst, ◌∙◌, arith}
use Rattle.std.specs.List.{flat_map, range_with_len, All}
use Rattle.std.proofs.lemmas.Grind.{same_number_lists}
use Rattle.std.proofs.lemmas.List.{same_lists, length-map, get_or-map}
use Rattle.std.proofs.lemmas.List.Concat.{get_or-flat_map, length-flat_map}
use Rattle.std.proofs.lemmas.List.Folds.{length-flat_map-take}
use Rattle.std.proofs.lemmas.List.FromFn.{get_or-map-range_with_len, length-map-range_with_len}
use Rattle.std.proofs.lemmas.List.Sums.{sum_by_more}
use Rattle.vortex_model.specs.LogicalType.{list, u64}
use Rattle.vortex_model.specs.Content.{Content, null, integer, tuple, Contents, nothing, first}
use Rattle.vortex_model.specs.Valid.{InRange}
use Rattle.vortex_arrays_model.specs.Layout.{Layout, list_views, Valid, len_of, array_type_of, nullability_by, content_at, is_valid, number_in, span, rows_of, IsSound, IsView, AreEndToEnd, HasLength}
use Rattle.vortex_arrays_model.specs.Canonical.{listed, items_of, start_of, IsCanonical, counts, IsLaidOut, IsRebuilt}
use Rattle.vortex_arrays_model.proofs.RowsLemmas.{row_at_position, row_count, rows_by_position}
use Rattle.vortex_arrays_model.proofs.CanonicalLemmas.{listed-span}

abbrev head_of : Content → List Content → Content
head_of d [] = d
head_of d (c ∷ cs) = c

abbrev tail_of : List Content → List Content
tail_of [] = []
tail_of (c ∷ cs) = cs

-- equal lists have equal contents
listed_tells : (cs ds : Contents) → listed cs ≡ listed ds → cs ≡ ds
listed_tells nothing nothing e = refl
listed_tells nothing (first d ds) e = cc
listed_tells (first c cs) nothing e = cc
listed_tells (first c cs) (first d ds) e = λ i. first (ap (head_of c) e i) (listed_tells cs ds (ap tail_of e) i)

-- the number of items of the rows before row i
start-flat : (rows : List Content) (i : ℕ) → length (flat_map items_of (take i rows)) ≡ start_of rows i
start-flat rows i = length-flat_map items_of (take i rows)

module _ (e o s : Layout) (g : Bool) (v : Valid) (f : Layout) (os ss : List ℕ) (h : IsCanonical (rows_of (list_views e o s g v)) os ss (rows_of f)) where
  abbrev old : Layout
  old = list_views e o s g v

  abbrev new : Layout
  new = list_views f (counts os) (counts ss) true v

  -- the offset and the size of a row
  offset_there : (i : ℕ) → i < len_of o → number_in (content_at (counts os) i) ≡ start_of (rows_of old) i
  offset_there i l =
      let w : i < length (rows_of old) = subst (λ n. i < n) (sym (row_count old)) l in
      let w' : i < length os = subst (λ n. i < n) (sym h.many_offsets) w in
      ap (λ z. number_in (integer z)) (get_or-map pos os i 0 (pos 0) w') ∙ h.offset i w

  size_there : (i : ℕ) → i < len_of o → number_in (content_at (counts ss) i) ≡ length (items_of (content_at old i))
  size_there i l =
      let w : i < length (rows_of old) = subst (λ n. i < n) (sym (row_count old)) l in
      let w' : i < length ss = subst (λ n. i < n) (sym h.many_sizes) w in
      ap (λ z. number_in (integer z)) (get_or-map pos ss i 0 (pos 0) w') ∙ h.size i w ∙ ap (λ c. length (items_of c)) (row_at_position old i null l)

  -- the elements of a row are its items
  row_items : (i : ℕ) → i < len_of o → map (content_at f) (range_with_len (start_of (rows_of old) i) (length (items_of (content_at old i)))) ≡ items_of (content_at old i)
  row_items i l =
      let st : ℕ = start_of (rows_of old) i in
      let n : ℕ = length (items_of (content_at old i)) in
      let w : i < length (rows_of old) = subst (λ m. i < m) (sym (row_count old)) l in
      let here : get_or (rows_of old) i null ≡ content_at old i = row_at_position old i null l in
      let from : length (flat_map items_of (take i (rows_of old))) ≡ st = start-flat (rows_of old) i in
      let room : length (flat_map items_of (take i (rows_of old))) + length (items_of (get_or (rows_of old) i null)) ≤ length (flat_map items_of (rows_of old)) = length-flat_map-take items_of (rows_of old) i null w in
      let many : length (items_of (get_or (rows_of old) i null)) ≡ n = ap (λ c. length (items_of c)) here in
      let all : length (flat_map items_of (rows_of old)) ≡ len_of f = ap length (sym h.end_to_end) ∙ row_count f in
      same_lists (map (content_at f) (range_with_len st n)) (items_of (content_at old i)) (length-map-range_with_len (content_at f) st n)
      (λ k d b.
      let small : k < n = subst (λ m. k < m) (length-map-range_with_len (content_at f) st n) b in
      let inside : st + k < len_of f = omega (arith, room, many, all, from) in
      let small' : k < length (items_of (get_or (rows_of old) i null)) = omega (arith, many) in
      get_or-map-range_with_len (content_at f) st n k (st + k) d small refl
      ∙ sym (row_at_position f (st + k) d inside)
      ∙ ap (λ es. get_or es (st + k) d) h.end_to_end
      ∙ ap (λ m. get_or (flat_map items_of (rows_of old)) (m + k) d) (sym from)
      ∙ get_or-flat_map items_of (rows_of old) i k null d w small'
      ∙ ap (λ c. get_or (items_of c) k d) here)

  eq_items : (i : ℕ) → i < len_of o → is_valid v i ≡ true → span (content_at f) (number_in (content_at (counts os) i)) (number_in (content_at (counts ss) i)) ≡ span (content_at e) (number_in (content_at o i)) (number_in (content_at s i))
  eq_items i l t = listed_tells _ _ (
      listed-span (content_at f) (number_in (content_at (counts os) i)) (number_in (content_at (counts ss) i))
      ∙ (λ j. map (content_at f) (range_with_len (offset_there i l j) (size_there i l j)))
      ∙ row_items i l
      ∙ ap (λ b. items_of (cond b (tuple (span (content_at e) (number_in (content_at o i)) (number_in (content_at s i)))) null)) t)

  eq_if : (i : ℕ) (b : Bool) → i < len_of o → is_valid v i ≡ b → cond b (tuple (span (content_at f) (number_in (content_at (counts os) i)) (number_in (content_at (counts ss) i)))) null ≡ cond b (tuple (span (content_at e) (number_in (content_at o i)) (number_in (content_at s i)))) null
  eq_if i true l t = ap tuple (eq_items i l t)
  eq_if i false l t = refl

  pub eq_row : (i : ℕ) → i < len_of o → content_at new i ≡ content_at old i
  eq_row i l = eq_if i (is_valid v i) l refl

  pub many_new : length (map pos os) ≡ len_of o
  many_new = length-map os pos ∙ h.many_offsets ∙ row_count old

  pub eq_rows : rows_of new ≡ rows_of old
  eq_rows = rows_by_position new (rows_of old) (row_count old ∙ sym many_new) (λ k l. let l' : k < len_of o = subst (λ m. k < m) many_new l in row_at_position old k null l' ∙ sym (eq_row k l'))

  -- the lists follow one another
  pub new_end_to_end : AreEndToEnd (counts os) (counts ss)
  new_end_to_end = λ i l.
      let after : suc i < len_of o = subst (λ m. suc i < m) many_new l in
      let here : i < len_of o = omega arith in
      let w : i < length (rows_of old) = subst (λ m. i < m) (sym (row_count old)) here in
      let next : suc i ≡ i + 1 = omega arith in
      offset_there (suc i) after
      ∙ ap (start_of (rows_of old)) next
      ∙ sum_by_more (λ row. length (items_of row)) (rows_of old) i null w
      ∙ (λ j. sym (offset_there i here) j + (ap (λ c. length (items_of c)) (row_at_position old i null here) ∙ sym (size_there i here)) j)

  -- the new parts fit together
  pub new_sound : IsSound old → IsSound f → All (InRange u64) (map pos os) → All (InRange u64) (map pos ss) → IsSound new
  new_sound sound fits k_os k_ss =
      let m_ss : length (map pos ss) ≡ len_of o = length-map ss pos ∙ h.many_sizes ∙ row_count old in (
        fits,
        (k_os, tt),
        (k_ss, tt),
        tt,
        tt,
        m_ss ∙ sym many_new,
        subst (HasLength v) (sym many_new) sound.6,
        (λ i b.
            let l : i < len_of o = subst (λ m. i < m) many_new b in
            let w : i < length (rows_of old) = subst (λ m. i < m) (sym (row_count old)) l in
            let w_os : i < length os = subst (λ m. i < m) (sym h.many_offsets) w in
            let w_ss : i < length ss = subst (λ m. i < m) (sym h.many_sizes) w in
            let room : length (flat_map items_of (take i (rows_of old))) + length (items_of (get_or (rows_of old) i null)) ≤ length (flat_map items_of (rows_of old)) = length-flat_map-take items_of (rows_of old) i null w in
            let all : length (flat_map items_of (rows_of old)) ≡ len_of f = ap length (sym h.end_to_end) ∙ row_count f in
            let within : get_or os i 0 + get_or ss i 0 ≤ len_of f = omega (arith, room, all, start-flat (rows_of old) i, h.offset i w, h.size i w) in
            subst (λ x. IsView (len_of f) (integer x) (integer (get_or (map pos ss) i (pos 0)))) (sym (get_or-map pos os i 0 (pos 0) w_os))
            (subst (λ x. IsView (len_of f) (integer (pos (get_or os i 0))) (integer x)) (sym (get_or-map pos ss i 0 (pos 0) w_ss)) within)),
        (λ t. new_end_to_end),
      )

-- What is laid out has the rows and the type.
pub laid_out_rows : (e o s : Layout) (v : Valid) (r : Layout) → IsLaidOut e o s v r → rows_of r ≡ rows_of (list_views e o s false v)
laid_out_rows e o s v r h = ap rows_of h.made ∙ eq_rows e o s false v h.elements h.offsets h.sizes h.canonical

pub laid_out_kind : (e o s : Layout) (v : Valid) (r : Layout) → IsLaidOut e o s v r → array_type_of r ≡ array_type_of (list_views e o s false v)
laid_out_kind e o s v r h = ap array_type_of h.made ∙ ap (λ k. list k (nullability_by v)) h.kind

-- no row or some
some_or_none : {P : Type 0} (n : ℕ) → (n ≡ 0 → P) → (0 < n → P) → P
some_or_none zero a b = a refl
some_or_none (suc n) a b = b (omega arith)

pub rebuilt_rows : (e o s : Layout) (g : Bool) (v : Valid) (r : Layout) → IsRebuilt e o s g v r → rows_of r ≡ rows_of (list_views e o s g v)
rebuilt_rows e o s true v r h = ap rows_of (h.flagged refl)
rebuilt_rows e o s false v r h = some_or_none (len_of o) (λ none. ap rows_of (h.empty none)) (λ some. laid_out_rows e o s v r (h.laid_out refl some))

pub rebuilt_kind : (e o s : Layout) (g : Bool) (v : Valid) (r : Layout) → IsRebuilt e o s g v r → array_type_of r ≡ array_type_of (list_views e o s g v)
rebuilt_kind e o s true v r h = ap array_type_of (h.flagged refl)
rebuilt_kind e o s false v r h = some_or_none (len_of o) (λ none. ap array_type_of (h.empty none)) (λ some. laid_out_kind e o s v r (h.laid_out refl some))

-- two canonical layouts of the same rows are equal
pub canonical_once : (rows : List Content) (os ss xs ys : List ℕ) (es fs : List Content) → IsCanonical rows os ss es → IsCanonical rows xs ys fs → (os ≡ xs) × (ss ≡ ys) × (es ≡ fs)
canonical_once rows os ss xs ys es fs h k = (
  same_number_lists os xs (h.many_offsets ∙ sym k.many_offsets) (λ i l. let w : i < length rows = subst (λ n. i < n) h.many_offsets l in h.offset i w ∙ sym (k.offset i w)),
  same_number_lists ss ys (h.many_sizes ∙ sym k.many_sizes) (λ i l. let w : i < length rows = subst (λ n. i < n) h.many_sizes l in h.size i w ∙ sym (k.size i w)),
  h.end_to_end ∙ sym k.end_to_end,
)

pub laid_out_once : (e o s : Layout) (v : Valid) (r : Layout) (a b c : Layout) (w : Valid) (t : Layout) (h : IsLaidOut e o s v r) (k : IsLaidOut a b c w t) → rows_of (list_views e o s false v) ≡ rows_of (list_views a b c false w) → (h.offsets ≡ k.offsets) × (h.sizes ≡ k.sizes) × (rows_of h.elements ≡ rows_of k.elements)
laid_out_once e o s v r a b c w t h k same = canonical_once (rows_of (list_views a b c false w)) h.offsets h.sizes k.offsets k.sizes (rows_of h.elements) (rows_of k.elements) (subst (λ rows. IsCanonical rows h.offsets h.sizes (rows_of h.elements)) same h.canonical) k.canonical

abbrev flag_of : Layout → Bool
flag_of (list_views e o s f v) = f
flag_of a = false

-- rebuilding a rebuilt list view changes nothing
pub rebuilt_twice : (e o s : Layout) (g : Bool) (v : Valid) (a b c : Layout) (k : Bool) (w : Valid) (r : Layout) → IsRebuilt e o s g v (list_views a b c k w) → IsRebuilt a b c k w r → r ≡ list_views a b c k w
rebuilt_twice e o s true v a b c k w r h again = again.flagged (ap flag_of (h.flagged refl))
rebuilt_twice e o s false v a b c k w r h again = some_or_none (len_of o)
    (λ none. again.empty (ap len_of (h.empty none) ∙ none))
    (λ some. again.flagged (ap flag_of (let m = h.laid_out refl some in m.made)))

pub ruleset rebuilt = (rebuilt_rows, rebuilt_kind, new_sound, laid_out_rows, laid_out_kind)
