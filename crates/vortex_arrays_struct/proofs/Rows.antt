-- Rows of slices.
use Rattle.std.proofs.Common.{◌≡◌, ◌<◌, ◌≤◌, ◌+◌, ◌-◌, ℕ, sym, ap, subst, ◌∙◌, arith}
use Rattle.vortex_arrays_model.specs.Layout.{Layout, len_of, array_type_of, content_at, rows_of}
use Rattle.vortex_model.specs.Content.{null}
use Rattle.vortex_arrays_model.specs.Picks.{Picks}
use Rattle.vortex_arrays_model.proofs.PicksLemmas.{picks_part_of_part}
use Rattle.vortex_arrays_model.proofs.RowsLemmas.{row_at_position, row_count, rows_by_position}

-- equal indices of one array have equal rows
pub eq_rows : (a r s : Layout) (n : ℕ) (f : ℕ → ℕ) → Picks a r n f → Picks a s n f → rows_of r ≡ rows_of s
eq_rows a r s n f p q = rows_by_position r (rows_of s) (row_count s ∙ q.len ∙ sym p.len) (λ i l.
    let small : i < n = subst (λ m. i < m) p.len l in
    row_at_position s i null (subst (λ m. i < m) (sym q.len) small) ∙ q.content i small ∙ sym (p.content i small))

-- a part of a part, and the part by added bounds
pub nested_rows : (a b c d : Layout) (start end first last : ℕ) → first ≤ last → last ≤ end - start → Picks a b (end - start) (λ i. start + i) → Picks b c (last - first) (λ i. first + i) → Picks a d (start + last - (start + first)) (λ i. start + first + i) → rows_of c ≡ rows_of d
nested_rows a b c d start end first last order within p q r =
    let many : start + last - (start + first) ≡ last - first = omega arith in
    eq_rows a c d (last - first) (λ i. start + first + i) (picks_part_of_part a b c (end - start) (last - first) start first (omega arith) p q) (subst (λ n. Picks a d n (λ i. start + first + i)) many r)

pub nested_kind : (a b c d : Layout) (n m k : ℕ) (f g h : ℕ → ℕ) → Picks a b n f → Picks b c m g → Picks a d k h → array_type_of c ≡ array_type_of d
nested_kind a b c d n m k f g h p q r = q.kind ∙ p.kind ∙ sym r.kind

pub all_rows : (a r : Layout) (end : ℕ) → end ≡ len_of a → Picks a r (end - 0) (λ i. 0 + i) → rows_of r ≡ rows_of a
all_rows a r end e p = rows_by_position r (rows_of a) (row_count a ∙ (omega (arith, e, p.len))) (λ i l.
    let small : i < end - 0 = subst (λ m. i < m) p.len l in
    let here : i < len_of a = omega (arith, e) in
    row_at_position a i null here ∙ ap (content_at a) (let z : i ≡ 0 + i = omega arith in z) ∙ sym (p.content i small))

pub all_kind : (a r : Layout) (n : ℕ) (f : ℕ → ℕ) → Picks a r n f → array_type_of r ≡ array_type_of a
all_kind a r n f p = p.kind

-- the slice of all rows, by their number
pub all_given : (a r : Layout) (end : ℕ) → end ≡ len_of a → Picks a r (end - 0) (λ i. 0 + i) → Picks a r (len_of a - 0) (λ i. 0 + i)
all_given a r end e p = subst (λ n. Picks a r (n - 0) (λ i. 0 + i)) e p

pub ruleset whole = (all_rows, all_kind, all_given)
