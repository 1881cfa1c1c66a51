-- The rows of integers that may be missing.
use Rattle.std.proofs.Common.{◌≡◌, ◌<◌, ℕ, zero, suc, ℤ, pos, false, cond, List, [], ◌∷◌, length, map, get_or, Option, Some, None, is_some, refl, sym, ap, ◌∙◌, arith}
use Rattle.std.proofs.lemmas.List.{length-map}
use Rattle.std.proofs.lemmas.List.FromFn.{fill_by_all}
use Rattle.vortex_model.specs.LogicalType.{IntKind}
use Rattle.vortex_model.specs.Content.{null, integer}
use Rattle.vortex_arrays_model.specs.Layout.{Layout, bools, numbers, Valid, required, by_array, content_at, rows_of}
use Rattle.vortex_arrays_leaf.specs.Options.{content_of_option, number_or_zero}

module _ {X : Type 0} (number : X → ℤ) where
  -- integers, null where there is none
  abbrev pub numbers_of : IntKind → List (Option X) → Layout
  numbers_of k xs = numbers k (map (number_or_zero number) xs) (by_array (bools (map is_some xs) required))

  row_at : (xs : List (Option X)) (i : ℕ) → i < length xs → get_or (map (content_of_option number) xs) i null ≡ cond (get_or (map is_some xs) i false) (integer (get_or (map (number_or_zero number) xs) i (pos 0))) null
  row_at [] i l = absurd (omega arith)
  row_at (None ∷ xs) zero l = refl
  row_at (Some x ∷ xs) zero l = refl
  row_at (x ∷ xs) (suc i) l = row_at xs i (omega arith)

  pub rows_of_options : (k : IntKind) (xs : List (Option X)) → rows_of (numbers_of k xs) ≡ map (content_of_option number) xs
  rows_of_options k xs = sym (fill_by_all (content_at (numbers_of k xs)) (map (content_of_option number) xs) (length (map (number_or_zero number) xs)) null (length-map xs (content_of_option number) ∙ sym (length-map xs (number_or_zero number))) (λ i l. row_at xs i (omega (arith, length-map xs (number_or_zero number), l))))

  -- the rows of an array of these parts
  pub rows_made : (k : IntKind) (a : Layout) (zs : List ℤ) (v : Valid) (xs : List (Option X)) → a ≡ numbers k zs v → zs ≡ map (number_or_zero number) xs → v ≡ by_array (bools (map is_some xs) required) → rows_of a ≡ map (content_of_option number) xs
  rows_made k a zs v xs made nums valid = ap rows_of (made ∙ (λ i. numbers k (nums i) (valid i))) ∙ rows_of_options k xs
