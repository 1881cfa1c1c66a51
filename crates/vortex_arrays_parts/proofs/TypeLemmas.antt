-- The types of layouts.
use Rattle.std.proofs.Common.{◌≡◌, ℕ, List, Bool, true, false, cond, refl, sym, ap, subst, ◌∙◌}
use Rattle.vortex_model.specs.LogicalType.{LogicalType, Nullability, utf8, binary, fixed_list, struct, Fields, nullability_of}
use Rattle.vortex_arrays_model.specs.Layout.{Layout, Valid, Columns, fixed_lists, records, strings, Strings, texts, byte_strings, array_type_of, nullability_by, fields_of}
use Rattle.vortex_arrays_leaf.specs.Strings.{IsStrings, strings_in}
use Rattle.vortex_dtype_core.specs.Parts.{is_utf8_type}
use Rattle.vortex_arrays_parts.proofs.TextTypes.{strings_kind}

pub fixed_type : (a e : Layout) (s n : ℕ) (v w : Valid) (k : LogicalType) (m : Nullability) → a ≡ fixed_lists e s n v → w ≡ v → k ≡ array_type_of e → m ≡ nullability_by w → array_type_of a ≡ fixed_list k s m
fixed_type a e s n v w k m made same kind null = ap array_type_of made ∙ (λ i. fixed_list (sym kind i) s (nullability_by (sym same i))) ∙ ap (λ x. fixed_list k s x) (sym null)

pub ruleset of_fixed_lists = (fixed_type)

-- a type of strings or of bytes, by its test and its nullability
either_type : (a : Layout) → IsStrings a → array_type_of a ≡ cond (is_utf8_type (array_type_of a)) (utf8 (nullability_of (array_type_of a))) (binary (nullability_of (array_type_of a)))
either_type (strings texts vs bs v) h = refl
either_type (strings byte_strings vs bs v) h = refl
either_type a h = absurd h

pub string_type : (a : Layout) (k : LogicalType) (b : Bool) (m : Nullability) → IsStrings a → k ≡ array_type_of a → b ≡ is_utf8_type k → m ≡ nullability_of k → array_type_of a ≡ cond b (utf8 m) (binary m)
string_type a k b m h e f g =
    let b_is : b ≡ is_utf8_type (array_type_of a) = f ∙ ap is_utf8_type e in
    let m_is : m ≡ nullability_of (array_type_of a) = g ∙ ap nullability_of e in
    either_type a h ∙ (λ i. cond (sym b_is i) (utf8 (sym m_is i)) (binary (sym m_is i)))

pub ruleset of_strings = (string_type)

pub string_parts : (a : Layout) (s : Strings) (vs bs : List (List ℕ)) (v : Valid) (k : LogicalType) → a ≡ strings s vs bs v → k ≡ array_type_of a → a ≡ strings (strings_in k) vs bs v
string_parts a s vs bs v k made e = made ∙ ap (λ x. strings x vs bs v) (sym (ap strings_in (e ∙ ap array_type_of made) ∙ strings_kind s (nullability_by v)))

pub ruleset parts_of_strings = (string_parts)
