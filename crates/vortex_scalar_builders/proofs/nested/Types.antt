-- The types of values, one after another.
use Rattle.std.proofs.Math.Bool.{and-false}
use Rattle.std.proofs.Common.{◌≡◌, ◌≢◌, ◌<◌, ◌+◌, ◌&&◌, ◌||◌, if◌then◌else◌, refl, sym, ap, ◌∙◌, ℕ, ℤ, true, false, suc, List, [], ◌∷◌, length, drop, get_or, map, Some, None}
use Rattle.std.specs.Ordering.{int_eq}
use Rattle.vortex_model.specs.LogicalType.{LogicalType, struct, Fields, eq_type, has_tag, type_tagged}
use Rattle.vortex_model.proofs.Lists.{opened}
use Rattle.vortex_dtype_core.specs.Parts.{fields_in_type}
use Rattle.vortex_dtype_core.specs.View.{type_of, fields_of, variants_of}
use Rattle.vortex_dtype_core.specs.declared.struct_fields.StructField.{StructField}
use Rattle.vortex_dtype_core.specs.declared.union_variants.UnionVariant.{UnionVariant}
use Rattle.vortex_dtype_core.proofs.Views.{field_of-parts, variant_of-parts}
use Rattle.vortex_scalar_core.specs.Scalar.{scalar_type}
use Rattle.vortex_scalar_core.specs.declared.scalar.Scalar.{Scalar}
use Rattle.vortex_scalar_builders.specs.nested.Children.{are_of_fields, is_record_of, is_choice}

-- ---- fields

pub unequal_lengths : (fs : List StructField) (cs : List Scalar) → length fs ≢ length cs → false ≡ are_of_fields (fields_of fs) (map scalar_type cs)
unequal_lengths [] [] n = absurd (n refl)
unequal_lengths [] (c ∷ cs) n = refl
unequal_lengths (f ∷ fs) [] n = refl
unequal_lengths (f ∷ fs) (c ∷ cs) n = rw (← unequal_lengths fs cs (λ e. n (ap suc e))) (sym (and-false _))

pub field_next : (fs : List StructField) (cs : List Scalar) (i : ℕ) (f : StructField) (c : Scalar) → i < length fs → i < length cs → f ≡ get_or fs i f → c ≡ get_or cs i c →
    are_of_fields (fields_of (drop i fs)) (map scalar_type (drop i cs)) ≡ eq_type (scalar_type c) (type_of f.dtype) && are_of_fields (fields_of (drop (i + 1) fs)) (map scalar_type (drop (i + 1) cs))
field_next fs cs i f c hf hc ef ec =
    ap (λ gs. are_of_fields (fields_of gs) (map scalar_type (drop i cs))) (opened fs i f hf ef)
    ∙ ap (λ ds. are_of_fields (fields_of (f ∷ drop (i + 1) fs)) (map scalar_type ds)) (opened cs i c hc ec)
    ∙ ap (λ p. eq_type (scalar_type c) p.1 && are_of_fields (fields_of (drop (i + 1) fs)) (map scalar_type (drop (i + 1) cs))) (field_of-parts f)

pub record_by_fields : (k : LogicalType) (fs : Fields) (ks : List LogicalType) → Some fs ≡ fields_in_type k → are_of_fields fs ks ≡ is_record_of k ks
record_by_fields (struct gs n) fs ks e = ap (λ x. are_of_fields x ks) (cc e)
record_by_fields k fs ks e = absurd (cc e)

pub no_record : (k : LogicalType) (ks : List LogicalType) → None ≡ fields_in_type k → false ≡ is_record_of k ks
no_record (struct gs n) ks e = absurd (cc e)
no_record k ks e = refl

pub ruleset records = (record_by_fields, no_record)

-- ---- variants

pub choice_next : (vs : List UnionVariant) (i : ℕ) (v : UnionVariant) (t : ℤ) (k : LogicalType) → i < length vs → v ≡ get_or vs i v →
    is_choice (variants_of (drop i vs)) t k ≡ (if int_eq v.tag t then eq_type k (type_of v.dtype) else is_choice (variants_of (drop (i + 1) vs)) t k)
choice_next vs i v t k h e =
    let rest = variants_of (drop (i + 1) vs) in
    ap (λ ws. is_choice (variants_of ws) t k) (opened vs i v h e)
    ∙ ap (λ p. (int_eq p.1.0 t || has_tag rest t) && eq_type k (if int_eq p.1.0 t then p.1.1 else type_tagged rest t)) (variant_of-parts v)
    ∙ elim (int_eq v.tag t) as (λ b. (b || has_tag rest t) && eq_type k (if b then type_of v.dtype else type_tagged rest t) ≡ (if b then eq_type k (type_of v.dtype) else is_choice rest t k)) [
      | true ↦ refl
      | false ↦ refl
    ]
