-- Which types have JSON text, and how deep they nest, part by part.
use Rattle.std.proofs.Common.{◌≡◌, ◌<◌, ◌+◌, ◌-◌, refl, sym, ap, subst, ◌&&◌, ℕ, zero, suc, Bool, true, false, List, ◌∷◌, length, get_or, drop, IsUtf8, arith}
use Rattle.vortex_model.specs.LogicalType.{LogicalType, list, fixed_list, struct, Fields, field, Nullability}
use Rattle.vortex_model.proofs.Lists.{opened}
use Rattle.vortex_dtype_ptype.specs.Numbers.{NumberKind, integral, floating, type_of_numbers, is_integral}
use Rattle.vortex_dtype_core.specs.View.{NamedType, type_of, fields_of}
use Rattle.vortex_dtype_core.specs.declared.struct_fields.StructField.{StructField}
use Rattle.vortex_dtype_core.proofs.Sizes.{levels}
use Rattle.vortex_dtype_core.proofs.Views.{field_of-parts}
use Rattle.vortex_table_text.specs.Types.{has_text, have_texts, nests_within, fields_nest_within, HasUtf8Names, HaveUtf8Names}

abbrev pub one_field : StructField → Bool
one_field f = has_text (type_of f.dtype)

abbrev pub all_fields : List StructField → Bool
all_fields fs = have_texts (fields_of fs)

pub more_fields : (f : StructField) (fs : List StructField) → all_fields (f ∷ fs) ≡ (one_field f && all_fields fs)
more_fields f fs = ap (λ p. has_text p.1 && all_fields fs) (field_of-parts f)

-- integers have JSON text
pub numbers_have_texts : (k : NumberKind) (n : Nullability) → has_text (type_of_numbers k n) ≡ is_integral k
numbers_have_texts (integral i) n = refl
numbers_have_texts (floating f) n = refl

pub ruleset parts = (levels, numbers_have_texts)

-- ---- how deep

pub list_within : (k : LogicalType) (n : Nullability) (depth : ℕ) → 0 < depth → nests_within k (depth - 1) ≡ nests_within (list k n) depth
list_within k n zero h = absurd (omega (arith, h))
list_within k n (suc depth) h = ap (nests_within k) {x = suc depth - 1} {y = depth} (omega arith)

pub list_beyond : (k : LogicalType) (n : Nullability) (depth : ℕ) → (0 < depth → ⊥) → false ≡ nests_within (list k n) depth
list_beyond k n zero h = refl
list_beyond k n (suc depth) h = absurd (h (omega arith))

pub fixed_list_within : (k : LogicalType) (m : ℕ) (n : Nullability) (depth : ℕ) → 0 < depth → nests_within k (depth - 1) ≡ nests_within (fixed_list k m n) depth
fixed_list_within k m n zero h = absurd (omega (arith, h))
fixed_list_within k m n (suc depth) h = ap (nests_within k) {x = suc depth - 1} {y = depth} (omega arith)

pub fixed_list_beyond : (k : LogicalType) (m : ℕ) (n : Nullability) (depth : ℕ) → (0 < depth → ⊥) → false ≡ nests_within (fixed_list k m n) depth
fixed_list_beyond k m n zero h = refl
fixed_list_beyond k m n (suc depth) h = absurd (h (omega arith))

pub struct_within : (fs : Fields) (n : Nullability) (depth : ℕ) → 0 < depth → fields_nest_within fs (depth - 1) ≡ nests_within (struct fs n) depth
struct_within fs n zero h = absurd (omega (arith, h))
struct_within fs n (suc depth) h = ap (fields_nest_within fs) {x = suc depth - 1} {y = depth} (omega arith)

pub struct_beyond : (fs : Fields) (n : Nullability) (depth : ℕ) → (0 < depth → ⊥) → false ≡ nests_within (struct fs n) depth
struct_beyond fs n zero h = refl
struct_beyond fs n (suc depth) h = absurd (h (omega arith))

-- numbers have no parts
pub numbers_nest : (k : NumberKind) (n : Nullability) (depth : ℕ) → nests_within (type_of_numbers k n) depth ≡ true
numbers_nest (integral i) n depth = refl
numbers_nest (floating f) n depth = refl

pub numbers_named : (k : NumberKind) (n : Nullability) → HasUtf8Names (type_of_numbers k n)
numbers_named (integral i) n = tt
numbers_named (floating f) n = tt

pub ruleset depths = (levels, numbers_nest, numbers_named, list_within, list_beyond, fixed_list_within, fixed_list_beyond, struct_within, struct_beyond)

abbrev pub one_nests : ℕ → StructField → Bool
one_nests depth f = nests_within (type_of f.dtype) depth

abbrev pub all_nest : ℕ → List StructField → Bool
all_nest depth fs = fields_nest_within (fields_of fs) depth

pub more_nest : (depth : ℕ) (f : StructField) (fs : List StructField) → all_nest depth (f ∷ fs) ≡ (one_nests depth f && all_nest depth fs)
more_nest depth f fs = ap (λ p. nests_within p.1 depth && all_nest depth fs) (field_of-parts f)

-- ---- names

-- where the names of the fields from the index on are UTF-8, all are
abbrev pub AreNamedFrom : List StructField → ℕ → Type 0
AreNamedFrom fs i = HaveUtf8Names (fields_of (drop i fs)) → HaveUtf8Names (fields_of fs)

pub named_next : (fs : List StructField) (i : ℕ) (f : StructField) → i < length fs → f ≡ get_or fs i f → IsUtf8 f.name → HasUtf8Names (type_of f.dtype) → AreNamedFrom fs i → AreNamedFrom fs (i + 1)
named_next fs i f l is name inner so = λ rest.
    let here : HaveUtf8Names (fields_of (f ∷ drop (i + 1) fs)) =
    subst (λ (p : NamedType). HaveUtf8Names (field p.0 p.1 (fields_of (drop (i + 1) fs)))) (sym (field_of-parts f)) (name, inner, rest) in
    so (subst (λ (gs : List StructField). HaveUtf8Names (fields_of gs)) (sym (opened fs i f l is)) here)
