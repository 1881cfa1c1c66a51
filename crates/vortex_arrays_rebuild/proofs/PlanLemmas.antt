-- The plan of a layout without gaps.
use Rattle.std.proofs.Common.{◌≡◌, ◌<◌, ◌≤◌, ◌+◌, ◌++◌, ℕ, Bool, true, false, cond, List, refl, length, map, take, set, get_or, sym, ap, subst, ◌∙◌, arith}
use Rattle.std.specs.List.{flat_map, range_with_len}
use Rattle.std.proofs.lemmas.List.{length-map, take_more_set, take_all}
use Rattle.std.proofs.lemmas.List.Concat.{length-flat_map}
use Rattle.std.proofs.lemmas.List.Folds.{length-flat_map-take}
use Rattle.std.proofs.lemmas.List.FromFn.{length-map-range_with_len}
use Rattle.vortex_model.specs.Content.{Content, null}
use Rattle.vortex_arrays_view.specs.declared.error.ArrayError.{ArrayError}
use Rattle.vortex_arrays_view.specs.declared.error.ArrayError.TheVariants as error
use Rattle.vortex_arrays_model.specs.Layout.{Layout, list_views, Valid, len_of, content_at, number_in, is_valid, rows_of, IsSound}
use Rattle.vortex_arrays_model.specs.Canonical.{items_of, IsCanonical}
use Rattle.vortex_arrays_model.proofs.CanonicalLemmas.{canonical_none, canonical_more, canonical_all, items_valid, items_null}
use Rattle.vortex_arrays_model.proofs.RowsLemmas.{row_at_position, row_count}
use Rattle.vortex_arrays_rebuild.specs.Density.{AreValidSizes}
use Rattle.vortex_arrays_rebuild.specs.Indices.{AreRead}
use Rattle.vortex_arrays_rebuild.specs.Rebuilds.{total_of, IsSumFault}
use Rattle.vortex_arrays_rebuild.specs.Runs.{IsLengthFault}
use Rattle.vortex_arrays_rebuild.proofs.DensityLemmas.{all_within, as_many_sizes, same_read}

-- the rows so far have no more elements than all rows
pub total_reached : (a : Layout) (f : ℕ → Content) (os ss ps : List ℕ) (i start size : ℕ) → IsCanonical (take i (rows_of a)) os ss (map f ps) → i < len_of a → items_of (content_at a i) ≡ map f (range_with_len start size) → length ps + size ≤ total_of (rows_of a)
total_reached a f os ss ps i start size h l e =
    let w : i < length (rows_of a) = subst (λ n. i < n) (sym (row_count a)) l in
    let room = length-flat_map-take items_of (rows_of a) i null w in
    let before : length (flat_map items_of (take i (rows_of a))) ≡ length ps = ap length (sym h.end_to_end) ∙ length-map ps f in
    let here : length (items_of (get_or (rows_of a) i null)) ≡ size = ap (λ c. length (items_of c)) (row_at_position a i null l) ∙ ap length e ∙ length-map-range_with_len f start size in
    let all : length (flat_map items_of (rows_of a)) ≡ total_of (rows_of a) = length-flat_map items_of (rows_of a) in
    omega (arith, room, before, here, all)

pub sum_fault : (e : ArrayError) (n : ℕ) (rows : List Content) → IsLengthFault e n → n ≤ total_of rows → IsSumFault e rows
sum_fault error.Memory n rows h l = tt
sum_fault error.Total n rows h l = omega arith
sum_fault e n rows h l = absurd h

pub no_memory : (e : ArrayError) (rows : List Content) → e ≡ error.Memory → IsSumFault e rows
no_memory e rows h = subst (λ x. IsSumFault x rows) (sym h) tt

-- ---- a list, by its offset and size

by_validity : (e o s : Layout) (v : Valid) (i start count : ℕ) (b : Bool) → is_valid v i ≡ b → start ≡ number_in (content_at o i) → count ≡ cond (is_valid v i) (number_in (content_at s i)) 0 → items_of (content_at (list_views e o s false v) i) ≡ map (content_at e) (range_with_len start count)
by_validity e o s v i start count true t p q = items_valid e o s false v i start count t p (q ∙ ap (λ b. cond b (number_in (content_at s i)) 0) t)
by_validity e o s v i start count false t p q =
    let none : count ≡ 0 = q ∙ ap (λ b. cond b (number_in (content_at s i)) 0) t in
    items_null e o s false v i t ∙ sym (ap (λ n. map (content_at e) (range_with_len start n)) none)

pub planned_row : (e o s : Layout) (v : Valid) (os ss : List ℕ) (i start count : ℕ) → IsSound (list_views e o s false v) → AreRead o os → AreValidSizes s v ss → i < len_of o → start ≡ get_or os i start → count ≡ get_or ss i count → items_of (content_at (list_views e o s false v) i) ≡ map (content_at e) (range_with_len start count)
planned_row e o s v os ss i start count h r z l p q =
    let size_there : i < len_of s = subst (λ n. i < n) (sym h.5) l in
    by_validity e o s v i start count (is_valid v i) refl
    (sym (same_read os i start (subst (λ n. i < n) (sym r.many) l) p) ∙ r.each i l)
    (sym (same_read ss i count (subst (λ n. i < n) (sym z.many) size_there) q) ∙ z.each i size_there)

pub planned_within : (e o s : Layout) (v : Valid) (os ss : List ℕ) (i start count : ℕ) → IsSound (list_views e o s false v) → AreRead o os → AreValidSizes s v ss → i < len_of o → start ≡ get_or os i start → count ≡ get_or ss i count → start + count ≤ len_of e
planned_within e o s v os ss i start count h r z l p q =
    let here : i < length os = subst (λ n. i < n) (sym r.many) l in
    let there : i < length ss = subst (λ n. i < n) (sym (as_many_sizes e o s false v os ss h r z)) here in
    let most = all_within e o s false v os ss h r z i here in
    omega (arith, most, same_read os i start here p, same_read ss i count there q)

-- ---- offsets and sizes written at their indices

pub canonical_set : (a : Layout) (f : ℕ → Content) (os ss ps : List ℕ) (i start size n : ℕ) → n ≡ length ps → i < length os → i < length ss → IsCanonical (take i (rows_of a)) (take i os) (take i ss) (map f ps) → i < len_of a → items_of (content_at a i) ≡ map f (range_with_len start size) → IsCanonical (take (i + 1) (rows_of a)) (take (i + 1) (set os i n)) (take (i + 1) (set ss i size)) (map f (ps ++ range_with_len start size))
canonical_set a f os ss ps i start size n e lo ls h l r =
    rw (take_more_set os i n lo, take_more_set ss i size ls, e) (canonical_more a f (take i os) (take i ss) ps i start size h l r)

pub canonical_whole : (a : Layout) (n : ℕ) (os ss : List ℕ) (es : List Content) → len_of a ≤ n → length os ≤ n → length ss ≤ n → IsCanonical (take n (rows_of a)) (take n os) (take n ss) es → IsCanonical (rows_of a) os ss es
canonical_whole a n os ss es l lo ls h = canonical_all a n os ss es l (rw (take_all n os lo, take_all n ss ls) at h)

pub ruleset planned = (canonical_none, no_memory)
