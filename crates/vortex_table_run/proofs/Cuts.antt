-- The strings of what is kept of rows.
use Rattle.std.proofs.Common.{◌≡◌, ◌<◌, ◌≤◌, ℕ, zero, suc, List, [], ◌∷◌, length, get_or, refl, sym, ap, rules, arith}
use Rattle.vortex_model.specs.Content.{Content, null, nth}
use Rattle.vortex_arrays_model.specs.Layout.{Layout, content_at, row_at}
use Rattle.vortex_arrays_model.specs.Parts.{columns_of}
use Rattle.vortex_arrays_model.proofs.PicksLemmas.{field_size}
use Rattle.vortex_arrays_core.proofs.RawRowsLemmas.{fields_within, size_without_names}
use Rattle.vortex_table_schema.specs.Cut.{Tree, whole, parts, tree_of, content_cut}
use Rattle.vortex_table_schema.specs.declared.projection.Projection as projection
use Rattle.vortex_table_schema.proofs.Cuts.{cut_content_of}
use Rattle.vortex_table_schema.proofs.Projections.{tree_of-Fields}
use Rattle.vortex_table_run.proofs.Contents.{row_without_names}

pub tree_of-Whole : tree_of projection.Whole ≡ whole
tree_of-Whole = search (rules, projection.the_lemmas)

-- null stays null
pub null_cut : (t : Tree) → content_cut t null ≡ null
null_cut whole = refl
null_cut (parts ps) = refl

pub all_kept : (c : Content) → content_cut (tree_of projection.Whole) c ≡ c
all_kept c = ap (λ t. content_cut t c) tree_of-Whole

pub ruleset kept = (row_without_names, fields_within, size_without_names, tree_of-Fields, tree_of-Whole, all_kept, null_cut)

pub ruleset by_value = (cut_content_of, null_cut)

pub nth_field : (fs : List Layout) (i p : ℕ) (a : Layout) → p < length fs → a ≡ get_or fs p a → nth (row_at (columns_of [] fs) i) p ≡ content_at a i
nth_field [] i p a l e = absurd (omega (arith, l))
nth_field (b ∷ fs) i zero a l e = ap (λ x. content_at x i) (sym e)
nth_field (b ∷ fs) i (suc p) a l e = nth_field fs i p a (omega (arith, l)) e

pub no_field : (fs : List Layout) (i p : ℕ) → length fs ≤ p → nth (row_at (columns_of [] fs) i) p ≡ null
no_field [] i p l = refl
no_field (b ∷ fs) i zero l = absurd (omega (arith, l))
no_field (b ∷ fs) i (suc p) l = no_field fs i p (omega (arith, l))

pub ruleset fields = (nth_field, no_field, null_cut, field_size)
