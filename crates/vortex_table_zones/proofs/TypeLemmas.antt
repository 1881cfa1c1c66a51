-- Types of the statistics of columns, one level and one field at a time.
use Rattle.std.proofs.Common.{◌≡◌, ◌<◌, ◌≤◌, ◌+◌, ℕ, zero, suc, Bool, List, [], ◌∷◌, ◌++◌, Some, None, refl, sym, ap, subst, ◌∙◌, map, length, get_or, drop, arith, add-one, append-nil}
use Rattle.std.proofs.lemmas.List.{append_assoc, map-append, drop_all}
use Rattle.vortex_model.specs.LogicalType.{LogicalType, struct, Fields, field, non_nullable}
use Rattle.vortex_dtype_core.specs.Parts.{fields_in_type}
use Rattle.vortex_dtype_core.specs.View.{NamedType, type_of, field_of, fields_of, fields_from}
use Rattle.vortex_dtype_core.specs.declared.struct_fields.StructField.{StructField}
use Rattle.vortex_dtype_core.proofs.Sizes.{type_size, fields_size}
use Rattle.vortex_dtype_core.proofs.Views.{field_of-parts}
use Rattle.vortex_table_zones.specs.Types.{leaf_known, known_type, known_fields}

-- ---- one level

pub of_record : (counts : Bool) (k : LogicalType) (fs : Fields) → Some fs ≡ fields_in_type k → known_type counts k ≡ struct (known_fields counts fs) non_nullable
of_record counts (struct gs n) fs e = ap (λ (hs : Fields). struct (known_fields counts hs) non_nullable) (cc e)
of_record counts k fs e = absurd (cc e)

pub of_leaf : (counts : Bool) (k : LogicalType) → None ≡ fields_in_type k → known_type counts k ≡ leaf_known counts k
of_leaf counts (struct gs n) e = absurd (cc e)
of_leaf counts k e = refl

pub below_record : (k : LogicalType) (fs : Fields) → Some fs ≡ fields_in_type k → fields_size fs < type_size k
below_record (struct gs n) fs e =
    let same : fs ≡ gs = cc e in
    subst (λ (hs : Fields). fields_size hs < suc (fields_size gs)) (sym same) (omega arith)
below_record k fs e = absurd (cc e)

-- the type of a record is made of those of its fields
pub record_known : (counts : Bool) (k l : LogicalType) (fs gs hs : Fields) → Some fs ≡ fields_in_type k → gs ≡ fs → hs ≡ known_fields counts gs → l ≡ struct hs non_nullable →
    l ≡ known_type counts k
record_known counts k l fs gs hs e same each made =
    made ∙ ap (λ (is : Fields). struct is non_nullable) (each ∙ ap (known_fields counts) same) ∙ sym (of_record counts k fs e)

pub column_known : (counts : Bool) (k l : LogicalType) → None ≡ fields_in_type k → l ≡ leaf_known counts k → l ≡ known_type counts k
column_known counts k l e made = made ∙ sym (of_leaf counts k e)

pub ruleset levels = (record_known, column_known)

-- ---- one field

abbrev pub known_named : Bool → NamedType → NamedType
known_named counts f = (f.0, known_type counts f.1)

pub each_known : (counts : Bool) (fs : List NamedType) → fields_from (map (known_named counts) fs) ≡ known_fields counts (fields_from fs)
each_known counts [] = refl
each_known counts (f ∷ fs) = ap (field f.0 (known_type counts f.1)) (each_known counts fs)

-- the fields so far and those of the rest are all
abbrev pub AreFields : Bool → List StructField → List StructField → List StructField → Type 0
AreFields counts done rest all =
    map field_of done ++ map (known_named counts) (map field_of rest) ≡ map (known_named counts) (map field_of all)

opened : (fs : List StructField) (i : ℕ) (f : StructField) → i < length fs → f ≡ get_or fs i f → drop i fs ≡ f ∷ drop (suc i) fs
opened [] i f h e = absurd (omega (arith, h))
opened (g ∷ fs) zero f h e = ap (λ (x : StructField). x ∷ fs) (sym e)
opened (g ∷ fs) (suc i) f h e = opened fs i f (omega (arith, h)) e

pub next_field : (fs : List StructField) (i : ℕ) (f : StructField) → i < length fs → f ≡ get_or fs i f → drop i fs ≡ f ∷ drop (i + 1) fs
next_field fs i f h e = opened fs i f h e ∙ ap (λ (n : ℕ). f ∷ drop n fs) (sym (add-one i))

pub one_more : (counts : Bool) (done new all : List StructField) (i : ℕ) (f g : StructField) → i < length all → f ≡ get_or all i f →
    g.name ≡ f.name → type_of g.dtype ≡ known_type counts (type_of f.dtype) → new ≡ done ++ g ∷ [] →
    AreFields counts done (drop i all) all → AreFields counts new (drop (i + 1) all) all
one_more counts done new all i f g h e name kind is so =
    let rest : List NamedType = map (known_named counts) (map field_of (drop (i + 1) all)) in
    let turn : field_of g ≡ known_named counts (field_of f) =
    field_of-parts g ∙ (λ j. (name j, kind j)) ∙ sym (ap (known_named counts) (field_of-parts f)) in
    ap (λ (fs : List StructField). map field_of fs ++ rest) is
    ∙ ap (λ (ns : List NamedType). ns ++ rest) (map-append field_of done (g ∷ []))
    ∙ append_assoc (map field_of done) (field_of g ∷ []) rest
    ∙ ap (λ (n : NamedType). map field_of done ++ n ∷ rest) turn
    ∙ ap (λ (fs : List StructField). map field_of done ++ map (known_named counts) (map field_of fs)) (sym (next_field all i f h e))
    ∙ so

pub no_more : (counts : Bool) (done all : List StructField) (i : ℕ) → length all ≤ i → AreFields counts done (drop i all) all →
    fields_of done ≡ known_fields counts (fields_of all)
no_more counts done all i h so =
    ap fields_from (sym (append-nil (map field_of done))
    ∙ ap (λ (fs : List StructField). map field_of done ++ map (known_named counts) (map field_of fs)) (sym (drop_all i all h)) ∙ so)
    ∙ each_known counts (map field_of all)
