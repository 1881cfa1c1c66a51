-- Rebuilding a rebuilt view changes nothing.
use Rattle.std.proofs.Common.{◌≡◌, ◌<◌, ◌≤◌, ◌+◌, ◌-◌, ◌^◌, ℕ, zero, suc, pos, Bool, true, false, List, length, map, take, get_or, sum_by, refl, sym, ap, subst, ◌∙◌, arith}
use Rattle.std.specs.Prelude.{IsFalse}
use Rattle.std.specs.List.{flat_map}
use Rattle.std.proofs.lemmas.List.{length-map, get_or-map, take_all}
use Rattle.std.proofs.lemmas.List.Concat.{length-flat_map}
use Rattle.std.proofs.lemmas.List.Sums.{sum_by_more}
use Rattle.vortex_model.specs.Content.{Content, null, integer}
use Rattle.vortex_arrays_view.specs.declared.error.ArrayError.{ArrayError}
use Rattle.vortex_arrays_view.specs.declared.error.ArrayError.TheVariants as error
use Rattle.vortex_arrays_model.specs.Layout.{Layout, list_views, Valid, len_of, content_at, number_in, rows_of, IsSound}
use Rattle.vortex_arrays_model.specs.Parts.{valid_in}
use Rattle.vortex_arrays_model.specs.Canonical.{items_of, start_of, IsCanonical, counts, IsLaidOut}
use Rattle.vortex_arrays_model.specs.Trimmed.{AreBounds, IsTrimmed}
use Rattle.vortex_arrays_model.proofs.RebuiltLemmas.{rebuilt_rows, rebuilt_twice}
use Rattle.vortex_arrays_model.proofs.RowsLemmas.{row_count}
use Rattle.vortex_arrays_model.proofs.TrimmedLemmas.{trimmed_rows}
use Rattle.vortex_arrays_model.proofs.ValidRows.{view_within}
use Rattle.vortex_arrays_nested.specs.Parts.{elements_of, offsets_of, sizes_of, is_flagged}
use Rattle.vortex_arrays_rebuild.specs.declared.rebuild.ListViewRebuildMode.{ListViewRebuildMode}
use Rattle.vortex_arrays_rebuild.specs.declared.rebuild.ListViewRebuildMode.TheVariants as mode
use Rattle.vortex_arrays_rebuild.specs.Rebuilds.{IsRebuiltBy, IsRebuiltView, IsRebuildFault, IsTotalFault, total_of}
use Rattle.vortex_arrays_rebuild.specs.Trims.{IsTrimmedView}
use Rattle.vortex_arrays_rebuild.proofs.RebuildLemmas.{parts_of}
use Rattle.vortex_arrays_rebuild.proofs.TrimLemmas.{many_lists}

-- no row or some, and a flag that is set or not
some_or_none : {P : Type 0} (n : ℕ) → (n ≡ 0 → P) → (0 < n → P) → P
some_or_none zero a b = a refl
some_or_none (suc n) a b = b (omega arith)

set_or_not : {P : Type 0} (b : Bool) → (b ≡ true → P) → (b ≡ false → P) → P
set_or_not true a b = a refl
set_or_not false a b = b refl

-- Each element is between the first offset and the last end.
record IsTight (a : Layout) : Type 0 where
  pub without_rows : len_of a ≡ 0 → len_of (elements_of a) ≡ 0
  pub bounds : 0 < len_of a → AreBounds (offsets_of a) (sizes_of a) 0 (len_of (elements_of a))

-- there is one least offset and one greatest end
bounds_once : (o s : Layout) (n from to : ℕ) → AreBounds o s 0 n → AreBounds o s from to → to - from ≡ n
bounds_once o s n from to h k =
    let low = k.least h.lowest h.lowest_within in
    let first = h.begins in
    let here = h.greatest k.highest k.highest_within in
    let last = k.ends in
    let there = k.greatest h.highest h.highest_within in
    let end = h.ends in
    omega (arith, low, first, here, last, there, end)

-- such a view can't be trimmed further
tight_stays : (r t : Layout) → IsTight r → IsTrimmedView r t → t ≡ r
tight_stays r t h k =
    let w = k.0 in
    let p = w.part in
    let all : w.to - w.from ≡ len_of (elements_of r) = some_or_none (len_of r)
    (λ none. let x = h.without_rows none in let y = w.without_rows (many_lists r ∙ none) in omega (arith, x, y))
    (λ some. bounds_once (offsets_of r) (sizes_of r) (len_of (elements_of r)) w.from w.to (h.bounds some) (w.bounds (subst (λ n. 0 < n) (sym (many_lists r)) some))) in
    k.2 (ap (λ x. len_of (elements_of x)) w.made ∙ p.len ∙ all)

-- a trimmed view is such a view
trimmed_tight : (e o s : Layout) (f : Bool) (v : Valid) (r : Layout) → IsTrimmed e o s f v r → IsTight r
trimmed_tight e o s f v r h =
    let p = h.part in
    let q = p.len in
    let there : (i : ℕ) → i < len_of o → number_in (content_at h.offsets i) ≡ number_in (content_at o i) - h.from = λ i l. ap number_in (h.moved i l) in
    subst IsTight (sym h.made) (record {
      without_rows = λ none. let z = h.without_rows (sym h.many ∙ none) in omega (arith, q, z);
      bounds = λ some.
          let b = h.bounds (subst (λ n. 0 < n) h.many some) in
          record {
            least = λ i l. omega arith;
            greatest = λ i l. let w : i < len_of o = subst (λ n. i < n) h.many l in omega (arith, q, b.least i w, b.greatest i w, there i w);
            lowest = b.lowest;
            lowest_within = subst (λ n. b.lowest < n) (sym h.many) b.lowest_within;
            begins = let x = b.begins in omega (arith, x, there b.lowest b.lowest_within);
            highest = b.highest;
            highest_within = subst (λ n. b.highest < n) (sym h.many) b.highest_within;
            ends = let x = b.ends in omega (arith, q, x, b.least b.highest b.highest_within, there b.highest b.highest_within);
          };
    })

count_read : (xs : List ℕ) (i : ℕ) → i < length xs → number_in (content_at (counts xs) i) ≡ get_or xs i 0
count_read xs i l = ap (λ z. number_in (integer z)) (get_or-map pos xs i 0 (pos 0) l)

-- and so is the layout without gaps
module _ (e o s : Layout) (v : Valid) (r : Layout) (sound : IsSound r) (h : IsLaidOut e o s v r) (some : 0 < len_of o) where
  abbrev rows : List Content
  rows = rows_of (list_views e o s false v)

  abbrev many : Content → ℕ
  many row = length (items_of row)

  c : IsCanonical rows h.offsets h.sizes (rows_of h.elements)
  c = h.canonical

  row_there : (i : ℕ) → i < len_of o → i < length rows
  row_there i l = subst (λ n. i < n) (sym (row_count (list_views e o s false v))) l

  begins_at : (i : ℕ) → i < len_of o → number_in (content_at (counts h.offsets) i) ≡ start_of rows i
  begins_at i l = let w = row_there i l in count_read h.offsets i (subst (λ n. i < n) (sym c.many_offsets) w) ∙ c.offset i w

  is_so_long : (i : ℕ) → i < len_of o → number_in (content_at (counts h.sizes) i) ≡ many (get_or rows i null)
  is_so_long i l = let w = row_there i l in count_read h.sizes i (subst (λ n. i < n) (sym c.many_sizes) w) ∙ c.size i w

  total : sum_by many rows ≡ len_of h.elements
  total = sym (length-flat_map items_of rows) ∙ ap length (sym c.end_to_end) ∙ row_count h.elements

  many_new : length (map pos h.offsets) ≡ len_of o
  many_new = length-map h.offsets pos ∙ c.many_offsets ∙ row_count (list_views e o s false v)

  last_ends : (k : ℕ) → k + 1 ≡ len_of o → start_of rows k + many (get_or rows k null) ≡ len_of h.elements
  last_ends k e_k =
      let l : k < len_of o = omega (arith, e_k) in
      let full : length rows ≤ k + 1 = omega (arith, e_k, row_count (list_views e o s false v)) in
      sym (sum_by_more many rows k null (row_there k l)) ∙ ap (sum_by many) (take_all (k + 1) rows full) ∙ total

  laid_tight : IsTight r
  laid_tight =
      let new : IsSound (list_views h.elements (counts h.offsets) (counts h.sizes) true v) = subst IsSound h.made sound in
      let k : ℕ = len_of o - 1 in
      let next : k + 1 ≡ len_of o = omega arith in
      let last : k < len_of o = omega arith in
      subst IsTight (sym h.made) (record {
        without_rows = λ none. let n : length (map pos h.offsets) ≡ 0 = none in absurd (omega (arith, n, some, many_new));
        bounds = λ _. record {
          least = λ i l. omega arith;
          greatest = λ i l. view_within (len_of h.elements) (content_at (counts h.offsets) i) (content_at (counts h.sizes) i) (new.7 i l);
          lowest = 0;
          lowest_within = subst (λ n. 0 < n) (sym many_new) some;
          begins = begins_at 0 some;
          highest = k;
          highest_within = subst (λ n. k < n) (sym many_new) last;
          ends = (λ i. begins_at k last i + is_so_long k last i) ∙ last_ends k next;
        };
      })

-- a view without gaps is not laid out again
rebuilt_stays : (a r t : Layout) → r ≡ parts_of r → IsRebuiltView a r → IsRebuiltView r t → t ≡ r
rebuilt_stays a r t parts h k = rebuilt_twice (elements_of a) (offsets_of a) (sizes_of a) (is_flagged a) (valid_in a) (elements_of r) (offsets_of r) (sizes_of r) (is_flagged r) (valid_in r) t (subst (IsRebuiltView a) parts h) k ∙ sym parts

-- a trimmed view keeps its flag
flag_stays : (a r : Layout) → IsTrimmedView a r → is_flagged r ≡ is_flagged a
flag_stays a r h = let w = h.0 in ap is_flagged w.made

view_tight : (a r : Layout) → IsTrimmedView a r → IsTight r
view_tight a r h = trimmed_tight (elements_of a) (offsets_of a) (sizes_of a) (is_flagged a) (valid_in a) r h.0

pub comes_back : (m : ListViewRebuildMode) (a r t : Layout) → r ≡ parts_of r → IsSound (parts_of r) → IsRebuiltBy m a r → IsRebuiltBy m r t → t ≡ r
comes_back mode.MakeZeroCopyToList a r t parts s h k = rebuilt_stays a r t parts h k
comes_back mode.TrimElements a r t parts s h k = tight_stays r t (view_tight a r h) k
comes_back mode.MakeExact a r t parts s h k = set_or_not (is_flagged a)
    (λ u. tight_stays r t (view_tight a r (h.0 u)) (k.0 (flag_stays a r (h.0 u) ∙ u)))
    (λ u. let w = h.1 u in some_or_none (len_of (offsets_of a))
    (λ none. rebuilt_stays a r t parts w (k.1 (ap is_flagged (w.empty none) ∙ u)))
    (λ some. let l = w.laid_out u some in
    tight_stays r t (laid_tight (elements_of a) (offsets_of a) (sizes_of a) (valid_in a) r (subst IsSound (sym parts) s) l some) (k.0 (ap is_flagged l.made))))
comes_back mode.OverlapCompression a r t parts s h k = k.1

-- the rows are the same
rows_laid_out : (a r : Layout) → a ≡ parts_of a → IsRebuiltView a r → rows_of r ≡ rows_of a
rows_laid_out a r parts h = rebuilt_rows (elements_of a) (offsets_of a) (sizes_of a) (is_flagged a) (valid_in a) r h ∙ ap rows_of (sym parts)

rows_trimmed : (a r : Layout) → a ≡ parts_of a → IsSound (parts_of a) → IsTrimmedView a r → rows_of r ≡ rows_of a
rows_trimmed a r parts s h = trimmed_rows (elements_of a) (offsets_of a) (sizes_of a) (is_flagged a) (valid_in a) r s h.0 ∙ ap rows_of (sym parts)

pub rows_stay : (m : ListViewRebuildMode) (a r : Layout) → a ≡ parts_of a → IsSound (parts_of a) → IsRebuiltBy m a r → rows_of r ≡ rows_of a
rows_stay mode.MakeZeroCopyToList a r parts s h = rows_laid_out a r parts h
rows_stay mode.TrimElements a r parts s h = rows_trimmed a r parts s h
rows_stay mode.MakeExact a r parts s h = set_or_not (is_flagged a) (λ u. rows_trimmed a r parts s (h.0 u)) (λ u. rows_laid_out a r parts (h.1 u))
rows_stay mode.OverlapCompression a r parts s h = ap rows_of h.1

-- an error for the rebuilt view would be one for the view
total_stays : (e : ArrayError) (a r : Layout) → (is_flagged r ≡ false → (is_flagged a ≡ false) × (rows_of r ≡ rows_of a)) → IsTotalFault e r → IsTotalFault e a
total_stays error.Memory a r f h = tt
total_stays error.Total a r f h = let w = f h.0 in (w.0, subst (λ rows. 2 ^ 64 ≤ total_of rows) w.1 h.1)
total_stays e a r f h = absurd h

unflagged : (a r : Layout) → a ≡ parts_of a → IsRebuiltView a r → is_flagged r ≡ false → (is_flagged a ≡ false) × (rows_of r ≡ rows_of a)
unflagged a r parts h x = set_or_not (is_flagged a)
    (λ u. absurd (cc (ap is_flagged (h.flagged u), u, x)))
    (λ u. (u, rows_laid_out a r parts h))

pub fault_stays : (m : ListViewRebuildMode) (a r : Layout) (e : ArrayError) → a ≡ parts_of a → IsRebuiltBy m a r → IsRebuildFault m r e → IsRebuildFault m a e
fault_stays mode.MakeZeroCopyToList a r e parts h k = total_stays e a r (unflagged a r parts h) k
fault_stays mode.TrimElements a r e parts h k = k
fault_stays mode.MakeExact a r e parts h k = total_stays e a r (λ x. set_or_not (is_flagged a) (λ u. absurd (cc (flag_stays a r (h.0 u), u, x))) (λ u. unflagged a r parts (h.1 u) x)) k
fault_stays mode.OverlapCompression a r e parts h k = subst (λ x. IsRebuildFault mode.OverlapCompression x e) h.1 k

pub ruleset twice = (comes_back, rows_stay, fault_stays)
