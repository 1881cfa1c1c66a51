-- Which layouts fit a column, by its rows.
use Rattle.std.proofs.Common.{◌≡◌, ◌<◌, ◌≤◌, ◌+◌, ℕ, Bool, true, false, not, ◌||◌, take, sym, ap, subst, ◌∙◌}
use Rattle.std.specs.List.{list_any}
use Rattle.std.proofs.lemmas.List.{take_all}
use Rattle.std.proofs.lemmas.List.Folds.{list_any_at, list_any_more}
use Rattle.vortex_model.specs.Content.{Content, null, is_null}
use Rattle.vortex_arrays_model.specs.Layout.{Layout, len_of, content_at, rows_of}
use Rattle.vortex_arrays_model.proofs.RowsLemmas.{row_at_position, row_count}

abbrev is_there : Content → Bool
is_there c = not (is_null c)

-- each row so far is null
pub none_there : (a : Layout) (i : ℕ) → list_any (λ c. not (is_null c)) (take i (rows_of a)) ≡ false → i < len_of a → not (is_null (content_at a i)) ≡ false → list_any (λ c. not (is_null c)) (take (i + 1) (rows_of a)) ≡ false
none_there a i h l f =
    list_any_more is_there (rows_of a) i null (subst (λ n. i < n) (sym (row_count a)) l)
    ∙ (λ t. h t || (ap is_there (row_at_position a i null l) ∙ f) t)

pub one_there : (a : Layout) (i : ℕ) → i < len_of a → not (is_null (content_at a i)) ≡ true → true ≡ list_any (λ c. not (is_null c)) (rows_of a)
one_there a i l h = sym (list_any_at is_there (rows_of a) i null (subst (λ n. i < n) (sym (row_count a)) l) (ap is_there (row_at_position a i null l) ∙ h))

pub none_at_all : (a : Layout) (n : ℕ) → len_of a ≤ n → list_any (λ c. not (is_null c)) (take n (rows_of a)) ≡ false → false ≡ list_any (λ c. not (is_null c)) (rows_of a)
none_at_all a n l h = sym h ∙ ap (list_any is_there) (take_all n (rows_of a) (subst (λ m. m ≤ n) (sym (row_count a)) l))

pub ruleset present = (none_there, one_there, none_at_all)
