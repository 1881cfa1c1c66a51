-- One step of a loop over parts.
use Rattle.std.proofs.Common.{◌≡◌, ◌<◌, ◌≤◌, ◌+◌, ◌&&◌, ℕ, ℤ, Bool, true, false, not, List, [], ◌∷◌, ◌++◌, map, length, get_or, drop, refl, sym, ap, ◌∙◌, append_assoc, append-nil, length-append, arith}
use Rattle.std.proofs.lemmas.List.{drop_all, map-append}
use Rattle.std.specs.List.{zip}
use Rattle.std.specs.Ordering.{int_eq}
use Rattle.std.specs.Str.{bytes_eq}
use Rattle.vortex_model.specs.LogicalType.{LogicalType, bare, eq_type, eq_fields, eq_variants, bare_fields, bare_variants}
use Rattle.vortex_model.proofs.Lists.{opened}
use Rattle.vortex_dtype_core.specs.View.{NamedType, TaggedType, type_of, field_of, fields_of, variant_of, variants_of}
use Rattle.vortex_dtype_core.specs.declared.dtype.DType.{DType}
use Rattle.vortex_dtype_core.specs.declared.struct_fields.StructField.{StructField}
use Rattle.vortex_dtype_core.specs.declared.union_variants.UnionVariant.{UnionVariant}
use Rattle.vortex_dtype_core.proofs.Views.{field_of-parts, variant_of-parts}

pub first_fails : (a b : Bool) → not a ≡ true → (a && b) ≡ false
first_fails true b e = absurd (cc e)
first_fails false b e = refl

pub both_hold : (a b : Bool) → not a ≡ false → b ≡ true → (a && b) ≡ true
both_hold true b n e = e
both_hold false b n e = absurd (cc n)

-- a name, a tag and a type
pub first_of_three_fails : (a b k : Bool) → not a ≡ true → (a && b && k) ≡ false
first_of_three_fails a b k e = ap (λ (c : Bool). c && k) (first_fails a b e)

pub all_hold : (a b k : Bool) → not a ≡ false → b ≡ true → k ≡ true → (a && b && k) ≡ true
all_hold a b k n e f = ap (λ (c : Bool). c && k) (both_hold a b n e) ∙ f

module _ {A : Type 0} (same : List A → List A → Bool) (one : A → A → Bool) (none : same [] [] ≡ true) (more : (x y : A) (xs ys : List A) → same (x ∷ xs) (y ∷ ys) ≡ (one x y && same xs ys)) where
  here : (xs ys : List A) (i : ℕ) (x y : A) → i < length xs → length xs ≡ length ys → x ≡ get_or xs i x → y ≡ get_or ys i y → same (drop i xs) (drop i ys) ≡ (one x y && same (drop (i + 1) xs) (drop (i + 1) ys))
  here xs ys i x y h e is_x is_y =
      ap (λ zs. same zs (drop i ys)) (opened xs i x h is_x) ∙ ap (λ zs. same (x ∷ drop (i + 1) xs) zs) (opened ys i y (omega arith) is_y) ∙ more x y _ _

  pub differ : (xs ys : List A) (i : ℕ) (x y : A) → i < length xs → length xs ≡ length ys → x ≡ get_or xs i x → y ≡ get_or ys i y → one x y ≡ false → same (drop i xs) (drop i ys) ≡ same xs ys → false ≡ same xs ys
  differ xs ys i x y h e is_x is_y d left =
      sym (ap (λ b. b && same (drop (i + 1) xs) (drop (i + 1) ys)) d) ∙ sym (here xs ys i x y h e is_x is_y) ∙ left

  pub go_on : (xs ys : List A) (i : ℕ) (x y : A) → i < length xs → length xs ≡ length ys → x ≡ get_or xs i x → y ≡ get_or ys i y → one x y ≡ true → same (drop i xs) (drop i ys) ≡ same xs ys → same (drop (i + 1) xs) (drop (i + 1) ys) ≡ same xs ys
  go_on xs ys i x y h e is_x is_y d left =
      sym (ap (λ b. b && same (drop (i + 1) xs) (drop (i + 1) ys)) d) ∙ sym (here xs ys i x y h e is_x is_y) ∙ left

  pub end : (xs ys : List A) (i : ℕ) → length xs ≤ i → length xs ≡ length ys → same (drop i xs) (drop i ys) ≡ same xs ys → true ≡ same xs ys
  end xs ys i h e left =
      sym none ∙ sym (ap (λ zs. same zs (drop i ys)) (drop_all i xs h) ∙ ap (λ zs. same [] zs) (drop_all i ys (omega arith))) ∙ left

-- one step over fields
abbrev pub one_field : StructField → StructField → Bool
one_field f g = bytes_eq f.name g.name && eq_type (type_of f.dtype) (type_of g.dtype)

abbrev pub all_fields : List StructField → List StructField → Bool
all_fields fs gs = eq_fields (fields_of fs) (fields_of gs)

pub more_fields : (f g : StructField) (fs gs : List StructField) → all_fields (f ∷ fs) (g ∷ gs) ≡ (one_field f g && all_fields fs gs)
more_fields f g fs gs =
    ap (λ (p : NamedType). bytes_eq p.0 (field_of g).0 && eq_type p.1 (field_of g).1 && all_fields fs gs) (field_of-parts f)
    ∙ ap (λ (p : NamedType). bytes_eq f.name p.0 && eq_type (type_of f.dtype) p.1 && all_fields fs gs) (field_of-parts g)

-- one step over fields up to nullability
abbrev pub one_bare_field : StructField → StructField → Bool
one_bare_field f g = bytes_eq f.name g.name && eq_type (bare (type_of f.dtype)) (bare (type_of g.dtype))

abbrev pub all_bare_fields : List StructField → List StructField → Bool
all_bare_fields fs gs = eq_fields (bare_fields (fields_of fs)) (bare_fields (fields_of gs))

pub more_bare_fields : (f g : StructField) (fs gs : List StructField) → all_bare_fields (f ∷ fs) (g ∷ gs) ≡ (one_bare_field f g && all_bare_fields fs gs)
more_bare_fields f g fs gs =
    ap (λ (p : NamedType). bytes_eq p.0 (field_of g).0 && eq_type (bare p.1) (bare (field_of g).1) && all_bare_fields fs gs) (field_of-parts f)
    ∙ ap (λ (p : NamedType). bytes_eq f.name p.0 && eq_type (bare (type_of f.dtype)) (bare p.1) && all_bare_fields fs gs) (field_of-parts g)

-- one step over variants
abbrev pub one_choice : UnionVariant → UnionVariant → Bool
one_choice v w = bytes_eq v.name w.name && int_eq v.tag w.tag && eq_type (type_of v.dtype) (type_of w.dtype)

abbrev pub all_choices : List UnionVariant → List UnionVariant → Bool
all_choices vs ws = eq_variants (variants_of vs) (variants_of ws)

pub more_choices : (v w : UnionVariant) (vs ws : List UnionVariant) → all_choices (v ∷ vs) (w ∷ ws) ≡ (one_choice v w && all_choices vs ws)
more_choices v w vs ws =
    ap (λ (p : TaggedType). bytes_eq p.0 (variant_of w).0 && int_eq p.1.0 (variant_of w).1.0 && eq_type p.1.1 (variant_of w).1.1 && all_choices vs ws) (variant_of-parts v)
    ∙ ap (λ (p : TaggedType). bytes_eq v.name p.0 && int_eq v.tag p.1.0 && eq_type (type_of v.dtype) p.1.1 && all_choices vs ws) (variant_of-parts w)

-- one step over variants up to nullability
abbrev pub one_bare_choice : UnionVariant → UnionVariant → Bool
one_bare_choice v w = bytes_eq v.name w.name && int_eq v.tag w.tag && eq_type (bare (type_of v.dtype)) (bare (type_of w.dtype))

abbrev pub all_bare_choices : List UnionVariant → List UnionVariant → Bool
all_bare_choices vs ws = eq_variants (bare_variants (variants_of vs)) (bare_variants (variants_of ws))

pub more_bare_choices : (v w : UnionVariant) (vs ws : List UnionVariant) → all_bare_choices (v ∷ vs) (w ∷ ws) ≡ (one_bare_choice v w && all_bare_choices vs ws)
more_bare_choices v w vs ws =
    ap (λ (p : TaggedType). bytes_eq p.0 (variant_of w).0 && int_eq p.1.0 (variant_of w).1.0 && eq_type (bare p.1.1) (bare (variant_of w).1.1) && all_bare_choices vs ws) (variant_of-parts v)
    ∙ ap (λ (p : TaggedType). bytes_eq v.name p.0 && int_eq v.tag p.1.0 && eq_type (bare (type_of v.dtype)) (bare p.1.1) && all_bare_choices vs ws) (variant_of-parts w)

-- parts from lists of names and types
zip_none : {A B : Type 0} (xs : List A) → zip {X = B} xs [] ≡ []
zip_none [] = refl
zip_none (x ∷ xs) = refl

pub one_more_made : {A B : Type 0} (built new : List A) (y : A) → new ≡ built ++ y ∷ [] → (b : B) (left after : List B) (n : ℕ) → left ≡ b ∷ after → length built + length left ≡ n → length new + length after ≡ n
one_more_made built new y made b left after n e whole = omega (arith, ap length made, length-append built (y ∷ []), ap length e)

pub one_more : {A B : Type 0} (built : List A) (y : A) (b : B) (left after : List B) (n : ℕ) → left ≡ b ∷ after → length built + length left ≡ n → length (built ++ y ∷ []) + length after ≡ n
one_more built y b left after n e whole = omega (arith, length-append built (y ∷ []), ap length e)

pub one_more_field : (names : List (List ℕ)) (built : List StructField) (f : StructField) (left after : List DType) (all : List NamedType) → length built < length names → f.name ≡ get_or names (length built) f.name → left ≡ f.dtype ∷ after → map field_of built ++ zip (drop (length built) names) (map type_of left) ≡ all → map field_of (built ++ f ∷ []) ++ zip (drop (length (built ++ f ∷ [])) names) (map type_of after) ≡ all
one_more_field names built f left after all h is e whole =
    let rest : List NamedType = zip (drop (length built + 1) names) (map type_of after) in
    let turn : zip (drop (length built) names) (map type_of left) ≡ field_of f ∷ rest =
    ap (λ (ds : List DType). zip (drop (length built) names) (map type_of ds)) e
    ∙ ap (λ (ns : List (List ℕ)). zip ns (type_of f.dtype ∷ map type_of after)) (opened names (length built) f.name h is)
    ∙ ap (λ (p : NamedType). p ∷ rest) (sym (field_of-parts f)) in
    rw (map-append, length-append, append_assoc) (sym (ap (λ (zs : List NamedType). map field_of built ++ zs) turn) ∙ whole)

pub no_more_fields : (names : List (List ℕ)) (built : List StructField) (left : List DType) (all : List NamedType) → left ≡ [] → map field_of built ++ zip (drop (length built) names) (map type_of left) ≡ all → map field_of built ≡ all
no_more_fields names built left all e whole =
    sym (append-nil (map field_of built))
    ∙ sym (ap (λ (ds : List DType). map field_of built ++ zip (drop (length built) names) (map type_of ds)) e ∙ ap (λ (zs : List NamedType). map field_of built ++ zs) (zip_none (drop (length built) names)))
    ∙ whole

pub no_more_choices : (names : List (List ℕ)) (tags : List ℤ) (built : List UnionVariant) (left : List DType) (all : List TaggedType) → left ≡ [] → map variant_of built ++ zip (drop (length built) names) (zip (drop (length built) tags) (map type_of left)) ≡ all → map variant_of built ≡ all
no_more_choices names tags built left all e whole =
    sym (append-nil (map variant_of built))
    ∙ sym (ap (λ (ds : List DType). map variant_of built ++ zip (drop (length built) names) (zip (drop (length built) tags) (map type_of ds))) e ∙ ap (λ (zs : List (ℤ × LogicalType)). map variant_of built ++ zip (drop (length built) names) zs) (zip_none (drop (length built) tags)) ∙ ap (λ (zs : List TaggedType). map variant_of built ++ zs) (zip_none (drop (length built) names)))
    ∙ whole

one_more_choice_of : (names : List (List ℕ)) (tags : List ℤ) (built : List UnionVariant) (v : UnionVariant) (left after : List DType) (all : List TaggedType) → length built < length names → length built < length tags → v.name ≡ get_or names (length built) v.name → v.tag ≡ get_or tags (length built) v.tag → left ≡ v.dtype ∷ after → map variant_of built ++ zip (drop (length built) names) (zip (drop (length built) tags) (map type_of left)) ≡ all → map variant_of (built ++ v ∷ []) ++ zip (drop (length (built ++ v ∷ [])) names) (zip (drop (length (built ++ v ∷ [])) tags) (map type_of after)) ≡ all
one_more_choice_of names tags built v left after all h k is at e whole =
    let rest : List TaggedType = zip (drop (length built + 1) names) (zip (drop (length built + 1) tags) (map type_of after)) in
    let turn : zip (drop (length built) names) (zip (drop (length built) tags) (map type_of left)) ≡ variant_of v ∷ rest =
    ap (λ (ds : List DType). zip (drop (length built) names) (zip (drop (length built) tags) (map type_of ds))) e
    ∙ ap (λ (ts : List ℤ). zip (drop (length built) names) (zip ts (type_of v.dtype ∷ map type_of after))) (opened tags (length built) v.tag k at)
    ∙ ap (λ (ns : List (List ℕ)). zip ns ((v.tag, type_of v.dtype) ∷ zip (drop (length built + 1) tags) (map type_of after))) (opened names (length built) v.name h is)
    ∙ ap (λ (p : TaggedType). p ∷ rest) (sym (variant_of-parts v)) in
    rw (map-append, length-append, append_assoc) (sym (ap (λ (zs : List TaggedType). map variant_of built ++ zs) turn) ∙ whole)

pub one_more_choice : (built new : List UnionVariant) (v : UnionVariant) → new ≡ built ++ v ∷ [] → (names : List (List ℕ)) (tags : List ℤ) (left after : List DType) (all : List TaggedType) → length built < length names → length built < length tags → v.name ≡ get_or names (length built) v.name → v.tag ≡ get_or tags (length built) v.tag → left ≡ v.dtype ∷ after → map variant_of built ++ zip (drop (length built) names) (zip (drop (length built) tags) (map type_of left)) ≡ all → map variant_of new ++ zip (drop (length new) names) (zip (drop (length new) tags) (map type_of after)) ≡ all
one_more_choice built new v made names tags left after all h k is at e whole = rw made (one_more_choice_of names tags built v left after all h k is at e whole)
