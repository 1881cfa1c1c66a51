-- The test for well-formed types, by fields and variants one after another.
use Rattle.std.proofs.Common.{◌≡◌, ◌<◌, ◌≤◌, ◌+◌, ◌&&◌, ◌||◌, not, drop, length, get_or, ℕ, ℤ, Bool, true, false, List, [], ◌∷◌, refl, sym, ap, ◌∙◌}
use Rattle.std.proofs.lemmas.List.{drop_all}
use Rattle.std.specs.List.{list_any}
use Rattle.std.specs.Ordering.{int_eq}
use Rattle.vortex_model.proofs.Lists.{opened}
use Rattle.vortex_dtype_core.specs.View.{type_of, fields_of, variants_of}
use Rattle.vortex_dtype_core.specs.Parts.{is_distinct}
use Rattle.vortex_dtype_core.specs.declared.struct_fields.StructField.{StructField}
use Rattle.vortex_dtype_core.specs.declared.union_variants.UnionVariant.{UnionVariant}
use Rattle.vortex_dtype_core.proofs.Views.{field_of-parts, variant_of-parts}
use Rattle.vortex_dtype_proto.specs.Messages.{are_tags, is_tag, variant_tags}
use Rattle.vortex_dtype_proto.specs.Shapes.{is_shaped, are_fields_shaped, are_variants_shaped}

-- a test that each item passes, over the items that are left and over all
module _ {A : Type 0} (one : A → Bool) (all : List A → Bool) (none : all [] ≡ true) (more : (x : A) (xs : List A) → all (x ∷ xs) ≡ (one x && all xs)) where
  left : (xs : List A) (i : ℕ) (x : A) → i < length xs → x ≡ get_or xs i x → all (drop i xs) ≡ (one x && all (drop (i + 1) xs))
  left xs i x h e = ap all (opened xs i x h e) ∙ more x (drop (i + 1) xs)

  pub fails : (xs : List A) (i : ℕ) (x : A) → i < length xs → x ≡ get_or xs i x → one x ≡ false → all (drop i xs) ≡ all xs → false ≡ all xs
  fails xs i x h e fault whole = sym (ap (λ b. b && all (drop (i + 1) xs)) fault) ∙ sym (left xs i x h e) ∙ whole

  pub goes_on : (xs : List A) (i : ℕ) (x : A) → i < length xs → x ≡ get_or xs i x → one x ≡ true → all (drop i xs) ≡ all xs → all (drop (i + 1) xs) ≡ all xs
  goes_on xs i x h e passed whole = sym (ap (λ b. b && all (drop (i + 1) xs)) passed) ∙ sym (left xs i x h e) ∙ whole

  pub ends : (xs : List A) (i : ℕ) → length xs ≤ i → all (drop i xs) ≡ all xs → true ≡ all xs
  ends xs i h whole = sym none ∙ sym (ap all (drop_all i xs h)) ∙ whole

abbrev pub one_field : StructField → Bool
one_field f = is_shaped (type_of f.dtype)

abbrev pub all_fields : List StructField → Bool
all_fields fs = are_fields_shaped (fields_of fs)

pub more_fields : (f : StructField) (fs : List StructField) → all_fields (f ∷ fs) ≡ (one_field f && all_fields fs)
more_fields f fs = ap (λ p. is_shaped p.1 && all_fields fs) (field_of-parts f)

abbrev pub one_variant : UnionVariant → Bool
one_variant v = is_shaped (type_of v.dtype)

abbrev pub all_variants : List UnionVariant → Bool
all_variants vs = are_variants_shaped (variants_of vs)

pub more_variants : (v : UnionVariant) (vs : List UnionVariant) → all_variants (v ∷ vs) ≡ (one_variant v && all_variants vs)
more_variants v vs = ap (λ p. is_shaped p.1.1 && all_variants vs) (variant_of-parts v)

-- tags
abbrev pub tags_of : List UnionVariant → List ℤ
tags_of vs = variant_tags (variants_of vs)

tags_first : (v : UnionVariant) (vs : List UnionVariant) → tags_of (v ∷ vs) ≡ v.tag ∷ tags_of vs
tags_first v vs = ap (λ p. p.1.0 ∷ tags_of vs) (variant_of-parts v)

abbrev pub bear : ℤ → List UnionVariant → Bool
bear t vs = list_any (λ u. int_eq u t) (tags_of vs)

abbrev pub have_tags : List UnionVariant → Bool
have_tags vs = are_tags (tags_of vs) && is_distinct (tags_of vs)

bear_left : (t : ℤ) (vs : List UnionVariant) (i : ℕ) (v : UnionVariant) → i < length vs → v ≡ get_or vs i v → bear t (drop i vs) ≡ (int_eq v.tag t || bear t (drop (i + 1) vs))
bear_left t vs i v h e = ap (λ ws. bear t ws) (opened vs i v h e) ∙ ap (λ ts. list_any (λ u. int_eq u t) ts) (tags_first v (drop (i + 1) vs))

pub bears : (t : ℤ) (vs : List UnionVariant) (i : ℕ) (v : UnionVariant) → i < length vs → v ≡ get_or vs i v → int_eq v.tag t ≡ true → bear t (drop i vs) ≡ bear t vs → true ≡ bear t vs
bears t vs i v h e passed whole = sym (ap (λ b. b || bear t (drop (i + 1) vs)) passed) ∙ sym (bear_left t vs i v h e) ∙ whole

pub bears_later : (t : ℤ) (vs : List UnionVariant) (i : ℕ) (v : UnionVariant) → i < length vs → v ≡ get_or vs i v → int_eq v.tag t ≡ false → bear t (drop i vs) ≡ bear t vs → bear t (drop (i + 1) vs) ≡ bear t vs
bears_later t vs i v h e fault whole = sym (ap (λ b. b || bear t (drop (i + 1) vs)) fault) ∙ sym (bear_left t vs i v h e) ∙ whole

pub bears_none : (t : ℤ) (vs : List UnionVariant) (i : ℕ) → length vs ≤ i → bear t (drop i vs) ≡ bear t vs → false ≡ bear t vs
bears_none t vs i h whole = sym (ap (λ ws. bear t ws) (drop_all i vs h)) ∙ whole

regrouped : (a b c d : Bool) → a ≡ true → ((a && b) && (not c && d)) ≡ (not c && (b && d))
regrouped true true c d h = refl
regrouped true false true d h = refl
regrouped true false false d h = refl
regrouped false b c d h = absurd (cc h)

tags_left : (vs : List UnionVariant) (i : ℕ) (v : UnionVariant) → i < length vs → v ≡ get_or vs i v → is_tag v.tag ≡ true → have_tags (drop i vs) ≡ (not (bear v.tag (drop (i + 1) vs)) && have_tags (drop (i + 1) vs))
tags_left vs i v h e byte =
    let rest = drop (i + 1) vs in
    ap (λ ws. have_tags ws) (opened vs i v h e) ∙ ap (λ ts. are_tags ts && is_distinct ts) (tags_first v rest)
    ∙ regrouped (is_tag v.tag) (are_tags (tags_of rest)) (bear v.tag rest) (is_distinct (tags_of rest)) byte

pub repeats : (vs : List UnionVariant) (i : ℕ) (v : UnionVariant) → i < length vs → v ≡ get_or vs i v → is_tag v.tag ≡ true → bear v.tag (drop (i + 1) vs) ≡ true → have_tags (drop i vs) ≡ have_tags vs → false ≡ have_tags vs
repeats vs i v h e byte passed whole = sym (ap (λ b. not b && have_tags (drop (i + 1) vs)) passed) ∙ sym (tags_left vs i v h e byte) ∙ whole

pub stays_distinct : (vs : List UnionVariant) (i : ℕ) (v : UnionVariant) → i < length vs → v ≡ get_or vs i v → is_tag v.tag ≡ true → bear v.tag (drop (i + 1) vs) ≡ false → have_tags (drop i vs) ≡ have_tags vs → have_tags (drop (i + 1) vs) ≡ have_tags vs
stays_distinct vs i v h e byte fault whole = sym (ap (λ b. not b && have_tags (drop (i + 1) vs)) fault) ∙ sym (tags_left vs i v h e byte) ∙ whole

pub all_distinct : (vs : List UnionVariant) (i : ℕ) → length vs ≤ i → have_tags (drop i vs) ≡ have_tags vs → true ≡ have_tags vs
all_distinct vs i h whole = sym (ap (λ ws. have_tags ws) (drop_all i vs h)) ∙ whole
