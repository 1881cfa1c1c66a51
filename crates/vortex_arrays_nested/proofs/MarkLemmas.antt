-- The marks of the values that codes refer to, with one more code.
use Rattle.std.proofs.Common.{◌≡◌, ◌<◌, ◌+◌, ◌∙◌, ℕ, ℤ, pos, negsuc, Bool, List, length, map, get_or, set, refl, sym, ap, subst}
use Rattle.std.proofs.lemmas.List.{get_or-map, length-map}
use Rattle.vortex_model.specs.LogicalType.{IntKind}
use Rattle.vortex_model.specs.Content.{integer}
use Rattle.vortex_arrays_model.specs.Layout.{Layout, numbers, required, natural, IsCode}
use Rattle.vortex_arrays_model.specs.Parts.{AreWithin}
use Rattle.vortex_arrays_model.specs.Referenced.{MarksReferenced}
use Rattle.vortex_arrays_model.proofs.ReferencedLemmas.{marks_more, marks_same}
use Rattle.vortex_arrays_validity.specs.Places.{places_or}
use Rattle.vortex_arrays_validity.proofs.PlaceLemmas.{row_named, row_null}

in_place : (n : ℕ) (z : ℤ) → IsCode n (integer z) → natural z < n
in_place n (pos i) h = h
in_place n (negsuc i) h = absurd h

is_place : (n : ℕ) (z : ℤ) → IsCode n (integer z) → z ≡ pos (natural z)
is_place n (pos i) h = refl
is_place n (negsuc i) h = absurd h

-- ---- codes that are integers, none of them null

module _ {X : Type 0} (k : IntKind) (number : X → ℤ) (xs : List X) (n i p : ℕ) (x : X) (h : AreWithin (numbers k (map number xs) required) n) (l : i < length xs) (at : x ≡ get_or xs i x) (e : p ≡ natural (number x)) where
  stands : get_or (map number xs) i (pos 0) ≡ number x
  stands = get_or-map number xs i x (pos 0) l ∙ ap number (sym at)

  code : IsCode n (integer (number x))
  code = subst (λ z. IsCode n (integer z)) stands (h i (subst (λ m. i < m) (sym (length-map xs number)) l))

  pub item_within : p < n
  item_within = subst (λ m. m < n) (sym e) (in_place n (number x) code)

  pub item_marked : (b : Bool) (marks : List Bool) → length marks ≡ n → MarksReferenced (numbers k (map number xs) required) i b marks → MarksReferenced (numbers k (map number xs) required) (i + 1) b (set marks p b)
  item_marked b marks many m =
      marks_more (numbers k (map number xs) required) i p b marks m (ap integer (stands ∙ is_place n (number x) code ∙ ap (λ j. pos j) (sym e))) (subst (λ o. p < o) (sym many) item_within)

-- ---- codes of any layout, as indices

module _ (c : Layout) (n : ℕ) (ps : List ℕ) (i p : ℕ) (b : Bool) (marks : List Bool) (is : ps ≡ places_or n c) (h : AreWithin c n) (l : i < length ps) (at : p ≡ get_or ps i p) (many : length marks ≡ n) (m : MarksReferenced c i b marks) where
  pub place_marked : p < n → MarksReferenced c (i + 1) b (set marks p b)
  place_marked small = marks_more c i p b marks m (row_named c n ps i p is h l at small) (subst (λ o. p < o) (sym many) small)

  pub no_place_marked : (p < n → ⊥) → MarksReferenced c (i + 1) b marks
  no_place_marked large = marks_same c i b marks m (row_null c n ps i p is h l at large)
