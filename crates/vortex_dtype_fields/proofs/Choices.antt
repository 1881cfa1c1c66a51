-- Variants one after another.
use Rattle.std.proofs.Common.{◌≡◌, ◌<◌, ◌≤◌, ◌+◌, ◌++◌, ◌&&◌, ◌||◌, ◌==◌, ◌-◌, add-one, get_or, arith, Bool, true, false, not, List, [], ◌∷◌, map, length, zero, suc, pos, refl, sym, ap, ◌∙◌, ℕ, ℤ, Option, Some, None, option_map, option_and_then, slice_get, if◌then◌else◌}
use Rattle.std.proofs.lemmas.Option.{slice_get_read, slice_get_past}
use Rattle.std.proofs.lemmas.Bool.Decides.{Decides-int_eq, Decides-eqb}
use Rattle.std.proofs.lemmas.Cmp.{int_eq_equiv}
use Rattle.std.specs.Bool.{Decides}
use Rattle.std.specs.List.{list_any}
use Rattle.std.specs.Ordering.{int_eq}
use Rattle.std.specs.Str.{bytes_eq}
use Rattle.std.proofs.lemmas.Bool.{or_parts}
use Rattle.vortex_model.specs.LogicalType.{LogicalType, Variants, no_variants, choice}
use Rattle.vortex_dtype_core.specs.Parts.{is_distinct, is_union_shape, variant_count}
use Rattle.vortex_dtype_core.specs.View.{type_of, variants_of}
use Rattle.vortex_dtype_core.specs.declared.union_variants.UnionVariant.{UnionVariant}
use Rattle.vortex_dtype_core.proofs.Views.{variant_of-parts, variant_count-variants_of, variants_in-items_of}
use Rattle.vortex_dtype_fields.specs.Records.{variant_names, tags_of, variant_types, numbers_from, count_from, variant_position, variant_at, tag_at, tag_position}

pub name_first : (v : UnionVariant) (vs : List UnionVariant) → variant_names (variants_of (v ∷ vs)) ≡ v.name ∷ variant_names (variants_of vs)
name_first v vs = ap (λ p. p.0 ∷ variant_names (variants_of vs)) (variant_of-parts v)

pub tag_first : (v : UnionVariant) (vs : List UnionVariant) → tags_of (variants_of (v ∷ vs)) ≡ v.tag ∷ tags_of (variants_of vs)
tag_first v vs = ap (λ p. p.1.0 ∷ tags_of (variants_of vs)) (variant_of-parts v)

pub count_first : (n : ℕ) (v : UnionVariant) (vs : List UnionVariant) → count_from n (variants_of (v ∷ vs)) ≡ int_eq v.tag (pos n) && count_from (suc n) (variants_of vs)
count_first n v vs = ap (λ p. int_eq p.1.0 (pos n) && count_from (suc n) (variants_of vs)) (variant_of-parts v)

pub types_along : (vs : List UnionVariant) → map type_of (map (λ v. v.dtype) vs) ≡ variant_types (variants_of vs)
types_along [] = refl
types_along (v ∷ vs) = ap (λ ks. type_of v.dtype ∷ ks) (types_along vs) ∙ sym (ap (λ p. p.1.1 ∷ variant_types (variants_of vs)) (variant_of-parts v))

pub ruleset in_order = (name_first, tag_first, count_first, types_along, add-one)

-- ---- indexes

variant_at-along : (vs : List UnionVariant) (i : ℕ) → variant_at (variants_of vs) i ≡ option_map (λ v. type_of v.dtype) (slice_get vs i)
variant_at-along [] i = refl
variant_at-along (v ∷ vs) zero = ap (λ p. Some p.1.1) (variant_of-parts v)
variant_at-along (v ∷ vs) (suc i) = variant_at-along vs i

tag_at-along : (vs : List UnionVariant) (i : ℕ) → tag_at (variants_of vs) i ≡ option_map (λ v. v.tag) (slice_get vs i)
tag_at-along [] i = refl
tag_at-along (v ∷ vs) zero = ap (λ p. Some p.1.0) (variant_of-parts v)
tag_at-along (v ∷ vs) (suc i) = tag_at-along vs i

pub variant_at-within : (vs : List UnionVariant) (i : ℕ) (v : UnionVariant) → i < length vs → v ≡ get_or vs i v → Some (type_of v.dtype) ≡ variant_at (variants_of vs) i
variant_at-within vs i v h e = sym (variant_at-along vs i ∙ ap (λ o. option_map (λ w. type_of w.dtype) o) (slice_get_read vs (length vs) i v refl h e))

pub variant_at-past : (vs : List UnionVariant) (i : ℕ) → length vs ≤ i → None ≡ variant_at (variants_of vs) i
variant_at-past vs i h = sym (variant_at-along vs i ∙ ap (λ o. option_map (λ w. type_of w.dtype) o) (slice_get_past vs i h))

pub tag_at-within : (vs : List UnionVariant) (i : ℕ) (v : UnionVariant) → i < length vs → v ≡ get_or vs i v → Some v.tag ≡ tag_at (variants_of vs) i
tag_at-within vs i v h e = sym (tag_at-along vs i ∙ ap (λ o. option_map (λ w. w.tag) o) (slice_get_read vs (length vs) i v refl h e))

pub tag_at-past : (vs : List UnionVariant) (i : ℕ) → length vs ≤ i → None ≡ tag_at (variants_of vs) i
tag_at-past vs i h = sym (tag_at-along vs i ∙ ap (λ o. option_map (λ w. w.tag) o) (slice_get_past vs i h))

-- the index of the first variant with this name, counted from n
abbrev pub named_from : ℕ → Variants → List ℕ → Option ℕ
named_from n no_variants x = None
named_from n (choice y t k vs) x = if bytes_eq y x then Some n else named_from (n + 1) vs x

named_from-moved : (n : ℕ) (vs : Variants) (x : List ℕ) → named_from (n + 1) vs x ≡ option_map suc (named_from n vs x)
named_from-moved n no_variants x = refl
named_from-moved n (choice y t k vs) x =
    elim (bytes_eq y x) as (λ b. (if b then Some (n + 1) else named_from (n + 1 + 1) vs x) ≡ option_map suc (if b then Some n else named_from (n + 1) vs x)) [
      | true ↦ ap (λ m. Some m) (add-one n)
      | false ↦ named_from-moved (n + 1) vs x
    ]

pub named_from-zero : (vs : Variants) (x : List ℕ) → named_from 0 vs x ≡ variant_position vs x
named_from-zero no_variants x = refl
named_from-zero (choice y t k vs) x =
    elim (bytes_eq y x) as (λ b. (if b then Some 0 else named_from 1 vs x) ≡ (if b then Some 0 else option_map suc (variant_position vs x))) [
      | true ↦ refl
      | false ↦ named_from-moved 0 vs x ∙ ap (λ o. option_map suc o) (named_from-zero vs x)
    ]

-- the index of the first variant with this tag, counted from n
abbrev pub tagged_from : ℕ → Variants → ℤ → Option ℕ
tagged_from n no_variants t = None
tagged_from n (choice x u k vs) t = if int_eq u t then Some n else tagged_from (n + 1) vs t

tagged_from-moved : (n : ℕ) (vs : Variants) (t : ℤ) → tagged_from (n + 1) vs t ≡ option_map suc (tagged_from n vs t)
tagged_from-moved n no_variants t = refl
tagged_from-moved n (choice x u k vs) t =
    elim (int_eq u t) as (λ b. (if b then Some (n + 1) else tagged_from (n + 1 + 1) vs t) ≡ option_map suc (if b then Some n else tagged_from (n + 1) vs t)) [
      | true ↦ ap (λ m. Some m) (add-one n)
      | false ↦ tagged_from-moved (n + 1) vs t
    ]

pub tagged_from-zero : (vs : Variants) (t : ℤ) → tagged_from 0 vs t ≡ tag_position vs t
tagged_from-zero no_variants t = refl
tagged_from-zero (choice x u k vs) t =
    elim (int_eq u t) as (λ b. (if b then Some 0 else tagged_from 1 vs t) ≡ (if b then Some 0 else option_map suc (tag_position vs t))) [
      | true ↦ refl
      | false ↦ tagged_from-moved 0 vs t ∙ ap (λ o. option_map suc o) (tagged_from-zero vs t)
    ]

pub ruleset at_places = (variants_in-items_of, variant_at-within, variant_at-past, tag_at-within, tag_at-past, named_from-zero, tagged_from-zero, variant_of-parts)

-- ---- tags 0, 1, and so on

unlike : {P : Type 0} (b : Bool) → Decides b P → ¬ P → b ≡ false
unlike true d never = absurd (never (d.0 refl))
unlike false d never = refl

length_numbers : (n m : ℕ) → length (numbers_from n m) ≡ m
length_numbers n zero = refl
length_numbers n (suc m) = ap suc (length_numbers (suc n) m)

not_among : (k n m : ℕ) → k < n → list_any (λ u. int_eq u (pos k)) (numbers_from n m) ≡ false
not_among k n zero h = refl
not_among k n (suc m) h =
    let apart : int_eq (pos n) (pos k) ≡ false = unlike (int_eq (pos n) (pos k)) (Decides-int_eq (pos n) (pos k)) (λ e. let same : n ≡ k = cc e in omega arith) in
    ap (λ b. b || list_any (λ u. int_eq u (pos k)) (numbers_from (suc n) m)) apart ∙ not_among k (suc n) m (omega arith)

distinct_numbers : (n m : ℕ) → is_distinct (numbers_from n m) ≡ true
distinct_numbers n zero = refl
distinct_numbers n (suc m) = ap (λ b. not b && is_distinct (numbers_from (suc n) m)) (not_among n (suc n) m (omega arith)) ∙ distinct_numbers (suc n) m

all_three : (a b c : Bool) → a ≡ true → b ≡ true → c ≡ true → (a && b && c) ≡ true
all_three a b c p q r = ap (λ x. x && b && c) p ∙ ap (λ x. x && c) q ∙ r

pub numbers_shape : (n m : ℕ) → n ≡ m → is_union_shape n m (numbers_from 0 m) ≡ true
numbers_shape n m h = all_three (n == m) (length (numbers_from 0 m) == m) (is_distinct (numbers_from 0 m))
    ((Decides-eqb n m).1 h) ((Decides-eqb (length (numbers_from 0 m)) m).1 (length_numbers 0 m)) (distinct_numbers 0 m)

pub numbers_next : (n m : ℕ) → n < m → numbers_from n (m - n) ≡ pos n ∷ numbers_from (n + 1) (m - (n + 1))
numbers_next n m h =
    let one_more : m - n ≡ suc (m - (n + 1)) = omega arith in
    ap (λ k. numbers_from n k) one_more ∙ ap (λ k. pos n ∷ numbers_from k (m - (n + 1))) (sym (add-one n))

pub ruleset numbered = (numbers_shape, numbers_next)

-- ---- the index of the tag at an index

distinct_parts : (a b : Bool) → (not a && b) ≡ true → (a ≡ false) × (b ≡ true)
distinct_parts true b h = absurd (cc h)
distinct_parts false b h = (refl, h)

-- a tag that no variant has is at no index
stands_nowhere : (vs : Variants) (i : ℕ) (t u : ℤ) → list_any (λ w. int_eq w t) (tags_of vs) ≡ false → tag_at vs i ≡ Some u → int_eq u t ≡ false
stands_nowhere no_variants i t u h e = absurd (cc e)
stands_nowhere (choice x w k vs) zero t u h e = let same : w ≡ u = cc e in ap (λ v. int_eq v t) (sym same) ∙ (or_parts (int_eq w t) (list_any (λ v. int_eq v t) (tags_of vs)) h).0
stands_nowhere (choice x w k vs) (suc i) t u h e = stands_nowhere vs i t u (or_parts (int_eq w t) (list_any (λ v. int_eq v t) (tags_of vs)) h).1 e

-- one step past a variant with another tag
over_first : (x : List ℕ) (t : ℤ) (k : LogicalType) (vs : Variants) (i : ℕ) (found : Option ℤ) → ((u : ℤ) → found ≡ Some u → int_eq u t ≡ false) →
    option_and_then (tag_position vs) found ≡ Some i → option_and_then (tag_position (choice x t k vs)) found ≡ Some (suc i)
over_first x t k vs i None apart h = absurd (cc h)
over_first x t k vs i (Some u) apart h =
    ap (λ b. if b then Some 0 else option_map suc (tag_position vs u)) (int_eq_equiv.symm t u ∙ apart u refl) ∙ ap (λ o. option_map suc o) h

pub lead_back : (vs : Variants) (i : ℕ) → is_distinct (tags_of vs) ≡ true → i < variant_count vs → option_and_then (tag_position vs) (tag_at vs i) ≡ Some i
lead_back no_variants i d h = absurd (omega arith)
lead_back (choice x t k vs) zero d h = ap (λ b. if b then Some 0 else option_map suc (tag_position vs t)) (int_eq_equiv.refl t)
lead_back (choice x t k vs) (suc i) d h =
    let both : (list_any (λ u. int_eq u t) (tags_of vs) ≡ false) × (is_distinct (tags_of vs) ≡ true) = distinct_parts (list_any (λ u. int_eq u t) (tags_of vs)) (is_distinct (tags_of vs)) d in
    over_first x t k vs i (tag_at vs i) (λ u. stands_nowhere vs i t u both.0) (lead_back vs i both.1 (omega arith))
