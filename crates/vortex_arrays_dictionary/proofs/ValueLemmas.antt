-- The rows at indices, none of them null.
use Rattle.std.proofs.Common.{◌≡◌, ◌<◌, ℕ, ℤ, pos, Bool, true, false, not, List, length, map, get_or, Some, sym, ap, subst, ◌∙◌}
use Rattle.std.specs.List.{All, slice_get}
use Rattle.vortex_model.specs.LogicalType.{IntKind}
use Rattle.vortex_model.specs.Content.{null, is_null}
use Rattle.vortex_arrays_model.specs.Layout.{Strings, Layout, bools, numbers, strings, Valid, nullability_by, len_of, content_at, is_valid, rows_of, IsSound, HasLength}
use Rattle.vortex_arrays_model.specs.Parts.{valid_in}
use Rattle.vortex_arrays_model.specs.Picks.{Picks, PicksValid}
use Rattle.vortex_arrays_model.proofs.RowsLemmas.{row_at_position, row_count}
use Rattle.vortex_arrays_core.proofs.Gathered.{gathers_bools, gathers_numbers, gathers_strings}
use Rattle.vortex_arrays_builder.specs.Types.{IsPlainLayout}
use Rattle.vortex_arrays_dictionary.specs.Columns.{is_plain_leaf}
use Rattle.vortex_arrays_dictionary.proofs.ColumnLemmas.{null_in}

-- no row is null where these are not
none_null : (v w : Valid) (ps : List ℕ) → ((n : ℕ) → HasLength w n) → nullability_by w ≡ nullability_by v → ((i : ℕ) → is_valid w i ≡ true) → All (λ p. is_valid v p ≡ true) ps → PicksValid v w (length ps) (λ i. get_or ps i 0)
none_null v w ps fits n valid there = record { fits = fits (length ps); nullability = n; bits = λ i l. valid i ∙ sym (there i 0 l) }

pub bools_there : (xs ys : List Bool) (v w : Valid) (ps : List ℕ) (r : Layout) → r ≡ bools ys w → ys ≡ map (λ i. get_or xs i false) ps → ((n : ℕ) → HasLength w n) → nullability_by w ≡ nullability_by v → ((i : ℕ) → is_valid w i ≡ true) → All (λ p. is_valid v p ≡ true) ps
    → Picks (bools xs v) r (length ps) (λ i. get_or ps i 0)
bools_there xs ys v w ps r made e fits n valid there = subst (λ x. Picks (bools xs v) x (length ps) (λ i. get_or ps i 0)) (sym made) (gathers_bools xs ys v w ps e (none_null v w ps fits n valid there))

pub bools_plain : (ys : List Bool) (w : Valid) (r : Layout) → r ≡ bools ys w → IsPlainLayout r
bools_plain ys w r made = subst IsPlainLayout (sym made) tt

pub numbers_there : (k j : IntKind) (xs ys : List ℤ) (v w : Valid) (ps : List ℕ) (r : Layout) → r ≡ numbers j ys w → IsSound (numbers k xs v) → All (λ i. i < length xs) ps → j ≡ k → ys ≡ map (λ i. get_or xs i (pos 0)) ps → ((n : ℕ) → HasLength w n) → nullability_by w ≡ nullability_by v → ((i : ℕ) → is_valid w i ≡ true) → All (λ p. is_valid v p ≡ true) ps
    → Picks (numbers k xs v) r (length ps) (λ i. get_or ps i 0)
numbers_there k j xs ys v w ps r made s within same e fits n valid there = subst (λ x. Picks (numbers k xs v) x (length ps) (λ i. get_or ps i 0)) (sym made) (gathers_numbers k j xs ys v w ps s within same e (none_null v w ps fits n valid there))

pub numbers_plain : (k : IntKind) (ys : List ℤ) (w : Valid) (r : Layout) → r ≡ numbers k ys w → IsPlainLayout r
numbers_plain k ys w r made = subst IsPlainLayout (sym made) tt

-- the views at the indices, beside the same buffers
pub strings_chosen : (s : Strings) (xs ys bs : List (List ℕ)) (v w : Valid) (ps : List ℕ) → IsSound (strings s xs bs v) → All (λ i. i < length xs) ps → map Some ys ≡ map (slice_get xs) ps → ((n : ℕ) → HasLength w n) → nullability_by w ≡ nullability_by v → ((i : ℕ) → is_valid w i ≡ true) → All (λ p. is_valid v p ≡ true) ps
    → Picks (strings s xs bs v) (strings s ys bs w) (length ps) (λ i. get_or ps i 0)
strings_chosen s xs ys bs v w ps sound within read fits n valid there = gathers_strings s xs ys bs v w ps sound within read (none_null v w ps fits n valid there)

pub strings_plain : (s : Strings) (ys bs : List (List ℕ)) (w : Valid) (r : Layout) → r ≡ strings s ys bs w → IsPlainLayout r
strings_plain s ys bs w r made = subst IsPlainLayout (sym made) tt

pub ruleset leaves = (bools_there, bools_plain, numbers_there, numbers_plain, strings_plain)

-- ---- the indices of a column's rows

pub within_column : (a : Layout) (ps : List ℕ) → All (λ p. p < length (rows_of a)) ps → All (λ p. p < len_of a) ps
within_column a ps h = subst (λ n. All (λ p. p < n) ps) (row_count a) h

valid_so : (b c : Bool) → b ≡ not c → c ≡ false → b ≡ true
valid_so b c e h = e ∙ ap not h

pub valid_there : (a : Layout) (ps : List ℕ) → is_plain_leaf a ≡ true → All (λ p. p < length (rows_of a)) ps → All (λ p. is_null (get_or (rows_of a) p null) ≡ false) ps → All (λ p. is_valid (valid_in a) p ≡ true) ps
valid_there a ps leaf within there = λ i d l.
    let p = get_or ps i d in
    let inside : p < len_of a = subst (λ n. p < n) (row_count a) (within i d l) in
    valid_so (is_valid (valid_in a) p) (is_null (content_at a p)) (null_in a p leaf) (ap is_null (sym (row_at_position a p null inside)) ∙ there i d l)
