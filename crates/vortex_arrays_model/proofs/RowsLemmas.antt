-- Statements about each index as statements about the list of rows.
use Rattle.std.proofs.Common.{◌≡◌, ◌<◌, ◌≤◌, ◌+◌, ◌-◌, ℕ, List, length, take, drop, get_or, slice_range, sym, subst, ◌∙◌, arith, refl, false}
use Rattle.std.proofs.lemmas.List.FromFn.{get_or-map-range_with_len, length-map-range_with_len, fill_by_all}
use Rattle.vortex_model.specs.Content.{Content, null, is_null}
use Rattle.vortex_arrays_model.specs.Layout.{Layout, len_of, content_at, rows_of, Strings, texts, byte_strings, string_content}
use Rattle.vortex_arrays_model.specs.Picks.{Picks}
use Rattle.vortex_arrays_model.proofs.PicksLemmas.{get_or-part, length-part}

pub row_at_position : (a : Layout) (i : ℕ) (d : Content) → i < len_of a → get_or (rows_of a) i d ≡ content_at a i
row_at_position a i d l = get_or-map-range_with_len (content_at a) 0 (len_of a) i i d l (omega arith)

pub row_count : (a : Layout) → length (rows_of a) ≡ len_of a
row_count a = length-map-range_with_len (content_at a) 0 (len_of a)

-- an array has the rows at its indices
pub rows_by_position : (r : Layout) (rows : List Content) → length rows ≡ len_of r → ((i : ℕ) → i < len_of r → get_or rows i null ≡ content_at r i) → rows_of r ≡ rows
rows_by_position r rows many same = sym (fill_by_all (content_at r) rows (len_of r) null many same)

pub rows_picked : (a r : Layout) (n at : ℕ) → Picks a r n (λ i. at + i) → at + n ≤ len_of a → rows_of r ≡ take n (drop at (rows_of a))
rows_picked a r n at p h =
    let fits : at + n ≤ length (rows_of a) = subst (λ m. at + n ≤ m) (sym (row_count a)) h in
    rows_by_position r (take n (drop at (rows_of a))) (length-part (rows_of a) n at fits ∙ sym p.len) (λ k l.
    let small : k < n = subst (λ m. k < m) p.len l in
    let within : at + k < len_of a = omega arith in
    get_or-part (rows_of a) n at null k small ∙ row_at_position a (at + k) null within ∙ sym (p.content k small))

-- the rows of a slice from one index to another
pub rows_sliced : (a r : Layout) (start end : ℕ) → start ≤ end → end ≤ len_of a → Picks a r (end - start) (λ i. start + i) → rows_of r ≡ slice_range (rows_of a) start end
rows_sliced a r start end order within p = rows_picked a r (end - start) start p (omega arith)

pub ruleset rows_said = (row_at_position, row_count, rows_picked, rows_sliced)

-- a string is no null
pub string_there : (s : Strings) (bs : List ℕ) → is_null (string_content s bs) ≡ false
string_there texts bs = refl
string_there byte_strings bs = refl
