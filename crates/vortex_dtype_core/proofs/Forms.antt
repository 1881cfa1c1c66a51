-- The forms of types, one for each variant of `DType`: a type that no case of a form makes has
-- another form.
use Rattle.std.proofs.Common.{◌≡◌, ℕ, Bool, true, false, refl, sym, ap, subst, ◌∙◌, rules}
use Rattle.std.specs.declared.rc.Rc.{Rc}
use Rattle.std.specs.declared.alloc.Global.{Global}
use Rattle.vortex_model.specs.LogicalType.{LogicalType, null_only, boolean_type, integer_type, float, decimal, utf8, binary, list, fixed_list, mapping, struct, union, variant, extension, Nullability, bare, eq_type}
use Rattle.vortex_model.proofs.Tests.{kind_so}
use Rattle.vortex_dtype_ptype.specs.Numbers.{NumberKind, integral, floating, type_of_numbers}
use Rattle.vortex_dtype_ptype.specs.declared.nullability.Nullability as outer
use Rattle.vortex_dtype_ptype.specs.declared.ptype.PType.{PType}
use Rattle.vortex_dtype_ptype.specs.declared.decimal.DecimalDType.{DecimalDType}
use Rattle.vortex_dtype_core.specs.View.{type_of}
use Rattle.vortex_dtype_core.specs.declared.dtype.DType as type
use Rattle.vortex_dtype_core.specs.declared.dtype.DType.{DType, out-DType, roll-DType, roll-out-DType}
use Rattle.vortex_dtype_core.specs.declared.dtype.DType.TheOpen.{DType-F}
use Rattle.vortex_dtype_core.specs.declared.extension.ExtDTypeData.{ExtDTypeData}
use Rattle.vortex_dtype_core.specs.declared.extension.ExtDTypeRef.{ExtDTypeRef}
use Rattle.vortex_dtype_core.specs.declared.map_dtype.MapDType.{MapDType}
use Rattle.vortex_dtype_core.specs.declared.map_dtype.MapEntries.{MapEntries}
use Rattle.vortex_dtype_core.specs.declared.struct_fields.StructFields.{StructFields}
use Rattle.vortex_dtype_core.specs.declared.struct_fields.StructField.{StructField}
use Rattle.vortex_dtype_core.specs.declared.union_variants.UnionVariants.{UnionVariants}
use Rattle.vortex_dtype_core.specs.declared.union_variants.UnionVariant.{UnionVariant}
use Rattle.vortex_dtype_core.proofs.Views.{type_of-Primitive, type_of-List, type_of-FixedSizeList, type_of-Map, type_of-Struct, type_of-Union, type_of-Extension, extension_type-parts}

pub data Form : Type 0 where
  of_null of_booleans of_numbers of_decimals of_texts of_bytes of_lists of_fixed_lists of_maps of_records of_unions of_variants of_extensions : Form

abbrev pub form : LogicalType → Form
form null_only = of_null
form (boolean_type n) = of_booleans
form (integer_type i n) = of_numbers
form (float f n) = of_numbers
form (decimal p s n) = of_decimals
form (utf8 n) = of_texts
form (binary n) = of_bytes
form (list k n) = of_lists
form (fixed_list k m n) = of_fixed_lists
form (mapping k v s n) = of_maps
form (struct fs n) = of_records
form (union vs n) = of_unions
form (variant n) = of_variants
form (extension id meta k) = of_extensions

-- the type is made as this form
abbrev pub IsMade : Form → DType → Type 0
IsMade of_null d = d ≡ type.Null
IsMade of_booleans d = (n : outer.Nullability) × (d ≡ type.Bool n)
IsMade of_numbers d = (p : PType) × (n : outer.Nullability) × (d ≡ type.Primitive p n)
IsMade of_decimals d = (s : DecimalDType) × (n : outer.Nullability) × (d ≡ type.Decimal s n)
IsMade of_texts d = (n : outer.Nullability) × (d ≡ type.Utf8 n)
IsMade of_bytes d = (n : outer.Nullability) × (d ≡ type.Binary n)
IsMade of_lists d = (e : Rc DType Global) × (n : outer.Nullability) × (d ≡ type.List e n)
IsMade of_fixed_lists d = (e : Rc DType Global) × (m : ℕ) × (n : outer.Nullability) × (d ≡ type.FixedSizeList e m n)
IsMade of_maps d = (m : MapDType) × (n : outer.Nullability) × (d ≡ type.Map m n)
IsMade of_records d = (s : StructFields) × (n : outer.Nullability) × (d ≡ type.Struct s n)
IsMade of_unions d = (u : UnionVariants) × (n : outer.Nullability) × (d ≡ type.Union u n)
IsMade of_variants d = (n : outer.Nullability) × (d ≡ type.Variant n)
IsMade of_extensions d = (x : ExtDTypeRef) × (d ≡ type.Extension x)

numbers_form : (k : NumberKind) (n : Nullability) → form (type_of_numbers k n) ≡ of_numbers
numbers_form (integral i) n = refl
numbers_form (floating f) n = refl

pub made_form : (f : Form) (d : DType) → IsMade f d → form (type_of d) ≡ f
made_form of_null d h = ap (λ e. form (type_of e)) h ∙ search (rules, type.the_lemmas)
made_form of_booleans d h = ap (λ e. form (type_of e)) h.1 ∙ search (rules, type.the_lemmas)
made_form of_numbers d h = ap (λ e. form (type_of e)) h.2 ∙ ap form (type_of-Primitive h.0 h.1) ∙ numbers_form _ _
made_form of_decimals d h = ap (λ e. form (type_of e)) h.2 ∙ search (rules, type.the_lemmas)
made_form of_texts d h = ap (λ e. form (type_of e)) h.1 ∙ search (rules, type.the_lemmas)
made_form of_bytes d h = ap (λ e. form (type_of e)) h.1 ∙ search (rules, type.the_lemmas)
made_form of_lists d h = ap (λ e. form (type_of e)) h.2 ∙ ap form (type_of-List h.0 h.1)
made_form of_fixed_lists d h = ap (λ e. form (type_of e)) h.3 ∙ ap form (type_of-FixedSizeList h.0 h.1 h.2)
made_form of_maps d h = ap (λ e. form (type_of e)) h.2 ∙ ap form (type_of-Map h.0 h.1)
made_form of_records d h = ap (λ e. form (type_of e)) h.2 ∙ ap form (type_of-Struct h.0 h.1)
made_form of_unions d h = ap (λ e. form (type_of e)) h.2 ∙ ap form (type_of-Union h.0 h.1)
made_form of_variants d h = ap (λ e. form (type_of e)) h.1 ∙ search (rules, type.the_lemmas)
made_form of_extensions d h = ap (λ e. form (type_of e)) h.1 ∙ ap form (type_of-Extension h.0) ∙ ap form (extension_type-parts h.0)

abbrev Opened : Type 0
Opened = DType-F DType ExtDTypeData ExtDTypeRef MapDType MapEntries StructField StructFields UnionVariant UnionVariants

abbrev form_of_opened : Opened → Form
form_of_opened DType-F.Null = of_null
form_of_opened (DType-F.Bool n) = of_booleans
form_of_opened (DType-F.Primitive p n) = of_numbers
form_of_opened (DType-F.Decimal s n) = of_decimals
form_of_opened (DType-F.Utf8 n) = of_texts
form_of_opened (DType-F.Binary n) = of_bytes
form_of_opened (DType-F.List e n) = of_lists
form_of_opened (DType-F.FixedSizeList e m n) = of_fixed_lists
form_of_opened (DType-F.Map m n) = of_maps
form_of_opened (DType-F.Struct s n) = of_records
form_of_opened (DType-F.Union u n) = of_unions
form_of_opened (DType-F.Variant n) = of_variants
form_of_opened (DType-F.Extension x) = of_extensions

rolled : (o : Opened) → IsMade (form_of_opened o) (roll-DType o)
rolled DType-F.Null = search (rules, type.the_lemmas)
rolled (DType-F.Bool n) = (n, search (rules, type.the_lemmas))
rolled (DType-F.Primitive p n) = (p, n, search (rules, type.the_lemmas))
rolled (DType-F.Decimal s n) = (s, n, search (rules, type.the_lemmas))
rolled (DType-F.Utf8 n) = (n, search (rules, type.the_lemmas))
rolled (DType-F.Binary n) = (n, search (rules, type.the_lemmas))
rolled (DType-F.List e n) = (e, n, search (rules, type.the_lemmas))
rolled (DType-F.FixedSizeList e m n) = (e, m, n, search (rules, type.the_lemmas))
rolled (DType-F.Map m n) = (m, n, search (rules, type.the_lemmas))
rolled (DType-F.Struct s n) = (s, n, search (rules, type.the_lemmas))
rolled (DType-F.Union u n) = (u, n, search (rules, type.the_lemmas))
rolled (DType-F.Variant n) = (n, search (rules, type.the_lemmas))
rolled (DType-F.Extension x) = (x, search (rules, type.the_lemmas))

-- each type is made as its form
pub made : (d : DType) (f : Form) → form (type_of d) ≡ f → IsMade f d
made d f e =
    let opened = form_of_opened (out-DType d) in
    let h : IsMade opened d = subst (IsMade opened) (roll-out-DType d) (rolled (out-DType d)) in
    subst (λ g. IsMade g d) (sym (made_form opened d h) ∙ e) h

unequal : (k l : LogicalType) → (form k ≡ form l → ⊥) → false ≡ eq_type k l
unequal k l other = by_test (eq_type k l) refl
  where
    by_test : (b : Bool) → eq_type k l ≡ b → false ≡ b
    by_test true e = absurd (other (ap form (kind_so k l e)))
    by_test false e = refl

pub apart : (f : Form) (a b : DType) → IsMade f a → (IsMade f b → ⊥) → false ≡ eq_type (type_of a) (type_of b)
apart f a b h other = unequal (type_of a) (type_of b) (λ e. other (made b f (sym e ∙ made_form f a h)))

form_bare : (k : LogicalType) → form (bare k) ≡ form k
form_bare null_only = refl
form_bare k = refl

pub bare_apart : (f : Form) (a b : DType) → IsMade f a → (IsMade f b → ⊥) → false ≡ eq_type (bare (type_of a)) (bare (type_of b))
bare_apart f a b h other = unequal (bare (type_of a)) (bare (type_of b)) (λ e. other (made b f (sym (sym (form_bare _) ∙ e ∙ form_bare _) ∙ made_form f a h)))
