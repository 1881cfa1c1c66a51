-- The rows of arrays by their columns, and one by one.
use Rattle.std.proofs.Common.{◌≡◌, refl, sym, ap, ◌∙◌, subst, ℕ, ◌+◌, ◌<◌, ◌≤◌, List, [], ◌∷◌, ◌++◌, length, map, take, Bool, true, false}
use Rattle.std.proofs.lemmas.List.{length-map, map-append, take_more, take_all}
use Rattle.vortex_model.specs.Content.{Content, null, boolean}
use Rattle.vortex_model.specs.Path.{Positions}
use Rattle.vortex_model.proofs.Lists.{map_twice}
use Rattle.vortex_model.proofs.Paths.{at_null}
use Rattle.vortex_model_table.specs.ZoneMap.{values_at}
use Rattle.vortex_arrays_model.specs.Layout.{Layout, len_of, content_at, rows_of}
use Rattle.vortex_arrays_model.specs.Column.{IsPart}
use Rattle.vortex_arrays_model.proofs.RowsLemmas.{row_at_position, row_count}
use Rattle.vortex_arrays_struct.proofs.Parts.{part_rows}
use Rattle.vortex_stats_bind.specs.Bound.{Provided}
use Rattle.vortex_stats_bind.specs.OperandValue.{truth_content, boolean_in}
use Rattle.vortex_stats_mask.specs.Wanted.{is_wanted}
use Rattle.vortex_stats_select.specs.Wants.{row_among, values_in}

-- ---- null

pub never_wanted : (want : Bool) → is_wanted want null ≡ false
never_wanted true = refl
never_wanted false = refl

pub ruleset nulls = (at_null, never_wanted)

-- ---- truths

pub wanted_told : (want : Bool) (c : Content) → is_wanted want (truth_content (boolean_in c)) ≡ is_wanted want c
wanted_told want (boolean b) = refl
wanted_told true c = refl
wanted_told false c = refl

pub ruleset told = (wanted_told)

-- ---- columns

pub many_among : (n : ℕ) (a : Layout) → length (map (row_among n) (rows_of a)) ≡ len_of a
many_among n a = length-map (rows_of a) (row_among n) ∙ row_count a

pub ruleset counts = (many_among)

-- a column of the contents is one of the rows
pub lent_among : (n : ℕ) (is : Positions) (rows cs : List Content) → cs ≡ values_at is rows → cs ≡ values_in is (map (row_among n) rows)
lent_among n is rows cs h = h ∙ sym (map_twice (λ (row : Provided). row.columns is) (row_among n) rows)

pub part_among : (n : ℕ) (a r : Layout) (is : Positions) → IsPart a is r → rows_of r ≡ values_in is (map (row_among n) (rows_of a))
part_among n a r is h = lent_among n is (rows_of a) (rows_of r) (part_rows a r is h)

pub ruleset lent = (lent_among)

pub ruleset parts = (part_among)

-- ---- row by row

row_more : (a : Layout) (i : ℕ) → i < len_of a →
    take (i + 1) (rows_of a) ≡ take i (rows_of a) ++ content_at a i ∷ []
row_more a i l =
    take_more (rows_of a) i null (subst (λ n. i < n) (sym (row_count a)) l)
    ∙ ap (λ c. take i (rows_of a) ++ c ∷ []) (row_at_position a i null l)

pub tested_more : (f : Content → Bool) (a : Layout) (i : ℕ) (xs ys : List Bool) (row : Content)
    (t : Bool) → xs ≡ map f (take i (rows_of a)) → i < len_of a → row ≡ content_at a i →
    t ≡ f row → ys ≡ xs ++ t ∷ [] → ys ≡ map f (take (i + 1) (rows_of a))
tested_more f a i xs ys row t h l e g made =
    made ∙ (λ j. h j ++ (g ∙ ap f e) j ∷ [])
    ∙ sym (ap (map f) (row_more a i l) ∙ map-append f (take i (rows_of a)) (content_at a i ∷ []))

pub tested_all : (f : Content → Bool) (a : Layout) (m : ℕ) (xs : List Bool) →
    xs ≡ map f (take m (rows_of a)) → len_of a ≤ m → xs ≡ map f (rows_of a)
tested_all f a m xs h l =
    h ∙ ap (map f) (take_all m (rows_of a) (subst (λ k. k ≤ m) (sym (row_count a)) l))
