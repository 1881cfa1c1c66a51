-- Offsets and sizes that are integers, and the elements of their lists.
use Rattle.std.proofs.Common.{◌≡◌, ◌↔◌, IsTrue, ◌<◌, ◌≤◌, ◌+◌, ℕ, ℤ, pos, Bool, List, length, map, get_or, refl, sym, ap, subst, ◌∙◌, arith, Option}
use Rattle.std.specs.Prelude.{◌≤ℤ◌, ◌<ℤ◌, negsuc, unsigned_abs, MatchOption}
use Rattle.std.proofs.lemmas.Int.{ints}
use Rattle.vortex_model.specs.LogicalType.{IntKind}
use Rattle.vortex_model.specs.Content.{integer}
use Rattle.vortex_model.proofs.Lists.{number_at}
use Rattle.vortex_arrays_model.specs.Layout.{Layout, numbers, Valid, required, array_type_of, len_of, content_at, natural, number_in, IsOffsets, IsView, AreEndToEnd}
use Rattle.vortex_arrays_model.specs.Trimmed.{AreBounds}
use Rattle.vortex_arrays_validity.proofs.PlaceLemmas.{below_word}
use Rattle.vortex_arrays_nested.specs.ListViews.{LieWithin, AllLieWithin}
use Rattle.vortex_arrays_nested.proofs.PairLemmas.{not_null}

-- ---- an integer of any type is at most the greatest 64-bit integer

pub natural_abs : (z : ℤ) → pos 0 ≤ℤ z → natural z ≡ unsigned_abs z
natural_abs (pos n) h = refl
natural_abs (negsuc n) h = grind (arith, ints, h)

pub natural_below : (z : ℤ) → z <ℤ pos 0 → natural z ≡ 0
natural_below (pos n) h = grind (arith, ints, h)
natural_below (negsuc n) h = refl

pub ruleset held = (below_word, natural_abs, natural_below)

-- ---- the list at an index

-- the integer of an item is that at its index
pub item_number : {X : Type 0} (f : X → ℤ) (k : IntKind) (xs : List X) (i : ℕ) (x : X) (n : ℕ) → i < length xs → x ≡ get_or xs i x → n ≡ natural (f x) → n ≡ number_in (content_at (numbers k (map f xs) required) i)
item_number f k xs i x n l at is = is ∙ ap natural (number_at f xs i x (f x) l at refl)

view_sum : (c : ℕ) (z y : ℤ) → IsView c (integer z) (integer y) → natural z + natural y ≤ c
view_sum c (pos i) (pos s) h = h
view_sum c z y h = absurd h

-- a list of lists within n elements
pub ends_within : (c : ℕ) (k j : IntKind) (os ss : List ℤ) (i n m : ℕ) → AllLieWithin c os ss → i < length os → n ≡ number_in (content_at (numbers k os required) i) → m ≡ number_in (content_at (numbers j ss required) i) → n + m ≤ c
ends_within c k j os ss i n m h l e d = omega (arith, e, d, view_sum c (get_or os i (pos 0)) (get_or ss i (pos 0)) (h i l))

-- ---- arrays that are integers

pub numbers_lie : (n : ℕ) (o s : Layout) (k j : IntKind) (xs ys : List ℤ) (v w : Valid) → IsOffsets (array_type_of o) → IsOffsets (array_type_of s) → numbers k xs v ≡ o → numbers j ys w ≡ s → LieWithin n o s → AllLieWithin n xs ys
numbers_lie n o s k j xs ys v w p q e d h = subst (λ y. LieWithin n (numbers k xs required) y) (sym (not_null s j ys w q d)) (subst (λ x. LieWithin n x s) (sym (not_null o k xs v p e)) h)

pub numbers_reach : (o s : Layout) (k j : IntKind) (xs ys : List ℤ) (v w : Valid) (r : Option (ℕ × ℕ)) → IsOffsets (array_type_of o) → IsOffsets (array_type_of s) → numbers k xs v ≡ o → numbers j ys w ≡ s → MatchOption r (length xs ≡ 0) (λ b. AreBounds (numbers k xs required) (numbers j ys required) b.0 b.1) → MatchOption r (len_of o ≡ 0) (λ b. AreBounds o s b.0 b.1)
numbers_reach o s k j xs ys v w r p q e d h = subst (λ y. MatchOption r (len_of o ≡ 0) (λ b. AreBounds o y b.0 b.1)) (not_null s j ys w q d) (subst (λ x. MatchOption r (len_of x ≡ 0) (λ b. AreBounds x (numbers j ys required) b.0 b.1)) (not_null o k xs v p e) h)

pub numbers_end : (o s : Layout) (k j : IntKind) (xs ys : List ℤ) (v w : Valid) (b : Bool) → IsOffsets (array_type_of o) → IsOffsets (array_type_of s) → numbers k xs v ≡ o → numbers j ys w ≡ s → (IsTrue b ↔ AreEndToEnd (numbers k xs required) (numbers j ys required)) → (IsTrue b ↔ AreEndToEnd o s)
numbers_end o s k j xs ys v w b p q e d h = subst (λ y. IsTrue b ↔ AreEndToEnd o y) (not_null s j ys w q d) (subst (λ x. IsTrue b ↔ AreEndToEnd x (numbers j ys required)) (not_null o k xs v p e) h)

pub same_follow : (k j : IntKind) (xs ys : List ℤ) (s : Layout) (b : Bool) → k ≡ j → xs ≡ ys → (IsTrue b ↔ AreEndToEnd (numbers k xs required) s) → (IsTrue b ↔ AreEndToEnd (numbers j ys required) s)
same_follow k j xs ys s b e d h = subst (λ a. IsTrue b ↔ AreEndToEnd a s) (λ i. numbers (e i) (d i) required) h
