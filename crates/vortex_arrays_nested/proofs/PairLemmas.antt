-- Offsets and sizes that are integers.
use Rattle.std.proofs.Common.{◌≡◌, ℕ, ℤ, pos, ◌+◌, ◌<◌, ◌↔◌, IsTrue, inl, inr, List, Bool, map, get_or, refl, sym, ap, subst, ◌∙◌, arith}
use Rattle.std.proofs.lemmas.Bool.{cases_eq}
use Rattle.std.proofs.lemmas.List.{map-id}
use Rattle.vortex_model.specs.LogicalType.{IntKind}
use Rattle.vortex_model.specs.Content.{integer}
use Rattle.vortex_arrays_model.specs.Layout.{Layout, numbers, Valid, required, all_valid, all_null, by_array, array_type_of, IsOffsets, IsView}
use Rattle.vortex_arrays_nested.specs.ListViews.{LieWithin, AllLieWithin}

offset_numbers : (k : IntKind) (xs : List ℤ) (v : Valid) → IsOffsets (array_type_of (numbers k xs v)) → v ≡ required
offset_numbers k xs required h = refl
offset_numbers k xs all_valid h = absurd h
offset_numbers k xs all_null h = absurd h
offset_numbers k xs (by_array a) h = absurd h

-- offsets that are integers are never null
pub not_null : (o : Layout) (k : IntKind) (xs : List ℤ) (v : Valid) → IsOffsets (array_type_of o) → numbers k xs v ≡ o → numbers k xs required ≡ o
not_null o k xs v h e = ap (λ u. numbers k xs u) (sym (offset_numbers k xs v (subst (λ x. IsOffsets (array_type_of x)) (sym e) h))) ∙ e

pub by_numbers : (n : ℕ) (o s : Layout) (k j : IntKind) (xs ys : List ℤ) (v w : Valid) (b : Bool) → IsOffsets (array_type_of o) → IsOffsets (array_type_of s) → numbers k xs v ≡ o → numbers j ys w ≡ s → (IsTrue b ↔ AllLieWithin n xs ys) → (IsTrue b ↔ LieWithin n o s)
by_numbers n o s k j xs ys v w b p q e d h = subst (λ x. IsTrue b ↔ LieWithin n x s) (not_null o k xs v p e) (subst (λ y. IsTrue b ↔ LieWithin n (numbers k xs required) y) (not_null s j ys w q d) h)

pub same_offsets : (n : ℕ) (xs ys zs : List ℤ) (b : Bool) → ys ≡ xs → (IsTrue b ↔ AllLieWithin n (map (λ z. z) ys) zs) → (IsTrue b ↔ AllLieWithin n xs zs)
same_offsets n xs ys zs b e h = subst (λ l. IsTrue b ↔ AllLieWithin n l zs) (map-id ys ∙ e) h

pub same_sizes : (n : ℕ) (xs ys zs : List ℤ) (b : Bool) → ys ≡ xs → (IsTrue b ↔ AllLieWithin n zs (map (λ z. z) ys)) → (IsTrue b ↔ AllLieWithin n zs xs)
same_sizes n xs ys zs b e h = subst (λ l. IsTrue b ↔ AllLieWithin n zs l) (map-id ys ∙ e) h

-- the range at an index
abbrev pub ViewAt : ℕ → List ℤ → List ℤ → ℕ → Type 0
ViewAt n os ss i = IsView n (integer (get_or os i (pos 0))) (integer (get_or ss i (pos 0)))

pub view_here : (n : ℕ) (os ss : List ℤ) (i : ℕ) (o s : ℤ) → o ≡ get_or os i (pos 0) → s ≡ get_or ss i (pos 0) → IsView n (integer o) (integer s) → ViewAt n os ss i
view_here n os ss i o s e d h = subst (λ x. IsView n (integer x) (integer (get_or ss i (pos 0)))) e (subst (λ y. IsView n (integer o) (integer y)) d h)

pub view_there : (n : ℕ) (os ss : List ℤ) (i : ℕ) (o s : ℤ) → o ≡ get_or os i (pos 0) → s ≡ get_or ss i (pos 0) → ViewAt n os ss i → IsView n (integer o) (integer s)
view_there n os ss i o s e d h = subst (λ x. IsView n (integer x) (integer s)) (sym e) (subst (λ y. IsView n (integer (get_or os i (pos 0))) (integer y)) (sym d) h)

pub one_view_more : (n : ℕ) (os ss : List ℤ) (i : ℕ) → ((k : ℕ) → k < i → ViewAt n os ss k) → ViewAt n os ss i → (k : ℕ) → k < i + 1 → ViewAt n os ss k
one_view_more n os ss i before here k l = elim (cases_eq k i) [
  | inl e ↦ subst (ViewAt n os ss) (sym e) here
  | inr d ↦ before k (omega arith)
]
