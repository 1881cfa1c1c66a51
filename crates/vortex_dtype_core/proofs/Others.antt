-- What types of other variants lack.
use Rattle.std.proofs.Common.{◌≡◌, ℕ, true, false, Option, Some, None, refl, sym, ap, ◌∙◌}
use Rattle.std.specs.Option.{option_map, is_some, IsSome}
use Rattle.std.specs.declared.rc.Rc.{Rc}
use Rattle.std.specs.declared.alloc.Global.{Global}
use Rattle.vortex_model.specs.LogicalType.{LogicalType, boolean_type, integer_type, float, decimal, utf8, binary, list, fixed_list, mapping, struct, union, variant, extension, stored, Nullability}
use Rattle.vortex_model.specs.Kept.{is_leaf}
use Rattle.vortex_dtype_ptype.specs.Numbers.{NumberKind, integral, floating, type_of_numbers, is_integral, is_real}
use Rattle.vortex_dtype_ptype.specs.declared.nullability.Nullability as outer
use Rattle.vortex_dtype_ptype.specs.declared.ptype.PType.{PType}
use Rattle.vortex_dtype_ptype.specs.declared.decimal.DecimalDType.{DecimalDType}
use Rattle.vortex_dtype_core.specs.Parts.{is_boolean_type, is_utf8_type, is_binary_type, is_variant_type, is_integer_type, is_float_type, numbers_in_type, decimal_in_type, element_in_type, fixed_element_in_type, list_element, entries_in_type, fields_in_type, variants_in_type, extension_in_type}
use Rattle.vortex_dtype_core.specs.View.{type_of, extension_type}
use Rattle.vortex_dtype_core.specs.declared.dtype.DType as type
use Rattle.vortex_dtype_core.specs.declared.dtype.DType.{DType}
use Rattle.vortex_dtype_core.specs.declared.extension.ExtDTypeRef.{ExtDTypeRef}
use Rattle.vortex_dtype_core.specs.declared.map_dtype.MapDType.{MapDType}
use Rattle.vortex_dtype_core.specs.declared.struct_fields.StructFields.{StructFields}
use Rattle.vortex_dtype_core.specs.declared.union_variants.UnionVariants.{UnionVariants}
use Rattle.vortex_dtype_core.proofs.Views.{one_level, extension_type-parts}
use Rattle.vortex_dtype_core.proofs.Forms.{Form, form, of_booleans, of_numbers, of_decimals, of_texts, of_bytes, of_lists, of_fixed_lists, of_maps, of_records, of_unions, of_variants, of_extensions, IsMade, made}

-- what is true of all types of other forms
has_other : {X : Type 0} (f : Form) (part : LogicalType → X) (x : X) → ((k : LogicalType) → (form k ≡ f → ⊥) → x ≡ part k) → (d : DType) → (IsMade f d → ⊥) → x ≡ part (type_of d)
has_other f part x elsewhere d other = elsewhere (type_of d) (λ e. other (made d f e))

is_boolean_type-other : (k : LogicalType) → (form k ≡ of_booleans → ⊥) → false ≡ is_boolean_type k
is_boolean_type-other (boolean_type n) other = absurd (other refl)
is_boolean_type-other k other = refl

pub other_than_booleans : (d : DType) → ((n : outer.Nullability) → d ≡ type.Bool n → ⊥) → false ≡ is_boolean_type (type_of d)
other_than_booleans d other = has_other of_booleans is_boolean_type false is_boolean_type-other d (λ h. other h.0 h.1)

numbers_in_type-other : (k : LogicalType) → (form k ≡ of_numbers → ⊥) → None ≡ numbers_in_type k
numbers_in_type-other (integer_type i n) other = absurd (other refl)
numbers_in_type-other (float f n) other = absurd (other refl)
numbers_in_type-other k other = refl

pub other_than_numbers : (d : DType) → ((p : PType) (n : outer.Nullability) → d ≡ type.Primitive p n → ⊥) → None ≡ numbers_in_type (type_of d)
other_than_numbers d other = has_other of_numbers numbers_in_type None numbers_in_type-other d (λ h. other h.0 h.1 h.2)

is_integer_type-other : (k : LogicalType) → (form k ≡ of_numbers → ⊥) → false ≡ is_integer_type k
is_integer_type-other (integer_type i n) other = absurd (other refl)
is_integer_type-other (float f n) other = absurd (other refl)
is_integer_type-other k other = refl

pub other_than_integers : (d : DType) → ((p : PType) (n : outer.Nullability) → d ≡ type.Primitive p n → ⊥) → false ≡ is_integer_type (type_of d)
other_than_integers d other = has_other of_numbers is_integer_type false is_integer_type-other d (λ h. other h.0 h.1 h.2)

is_float_type-other : (k : LogicalType) → (form k ≡ of_numbers → ⊥) → false ≡ is_float_type k
is_float_type-other (integer_type i n) other = absurd (other refl)
is_float_type-other (float f n) other = absurd (other refl)
is_float_type-other k other = refl

pub other_than_floats : (d : DType) → ((p : PType) (n : outer.Nullability) → d ≡ type.Primitive p n → ⊥) → false ≡ is_float_type (type_of d)
other_than_floats d other = has_other of_numbers is_float_type false is_float_type-other d (λ h. other h.0 h.1 h.2)

decimal_in_type-other : (k : LogicalType) → (form k ≡ of_decimals → ⊥) → None ≡ decimal_in_type k
decimal_in_type-other (decimal p s n) other = absurd (other refl)
decimal_in_type-other k other = refl

pub other_than_decimals : (d : DType) → ((s : DecimalDType) (n : outer.Nullability) → d ≡ type.Decimal s n → ⊥) → None ≡ decimal_in_type (type_of d)
other_than_decimals d other = has_other of_decimals decimal_in_type None decimal_in_type-other d (λ h. other h.0 h.1 h.2)

is_utf8_type-other : (k : LogicalType) → (form k ≡ of_texts → ⊥) → false ≡ is_utf8_type k
is_utf8_type-other (utf8 n) other = absurd (other refl)
is_utf8_type-other k other = refl

pub other_than_texts : (d : DType) → ((n : outer.Nullability) → d ≡ type.Utf8 n → ⊥) → false ≡ is_utf8_type (type_of d)
other_than_texts d other = has_other of_texts is_utf8_type false is_utf8_type-other d (λ h. other h.0 h.1)

is_binary_type-other : (k : LogicalType) → (form k ≡ of_bytes → ⊥) → false ≡ is_binary_type k
is_binary_type-other (binary n) other = absurd (other refl)
is_binary_type-other k other = refl

pub other_than_bytes : (d : DType) → ((n : outer.Nullability) → d ≡ type.Binary n → ⊥) → false ≡ is_binary_type (type_of d)
other_than_bytes d other = has_other of_bytes is_binary_type false is_binary_type-other d (λ h. other h.0 h.1)

element_in_type-other : (k : LogicalType) → (form k ≡ of_lists → ⊥) → None ≡ element_in_type k
element_in_type-other (list l n) other = absurd (other refl)
element_in_type-other k other = refl

pub other_than_lists : (d : DType) → ((e : Rc DType Global) (n : outer.Nullability) → d ≡ type.List e n → ⊥) → None ≡ element_in_type (type_of d)
other_than_lists d other = has_other of_lists element_in_type None element_in_type-other d (λ h. other h.0 h.1 h.2)

fixed_element_in_type-other : (k : LogicalType) → (form k ≡ of_fixed_lists → ⊥) → None ≡ fixed_element_in_type k
fixed_element_in_type-other (fixed_list l m n) other = absurd (other refl)
fixed_element_in_type-other k other = refl

pub other_than_fixed_lists : (d : DType) → ((e : Rc DType Global) (m : ℕ) (n : outer.Nullability) → d ≡ type.FixedSizeList e m n → ⊥) → None ≡ fixed_element_in_type (type_of d)
other_than_fixed_lists d other = has_other of_fixed_lists fixed_element_in_type None fixed_element_in_type-other d (λ h. other h.0 h.1 h.2 h.3)

entries_in_type-other : (k : LogicalType) → (form k ≡ of_maps → ⊥) → None ≡ entries_in_type k
entries_in_type-other (mapping l v s n) other = absurd (other refl)
entries_in_type-other k other = refl

pub other_than_maps : (d : DType) → ((m : MapDType) (n : outer.Nullability) → d ≡ type.Map m n → ⊥) → None ≡ entries_in_type (type_of d)
other_than_maps d other = has_other of_maps entries_in_type None entries_in_type-other d (λ h. other h.0 h.1 h.2)

fields_in_type-other : (k : LogicalType) → (form k ≡ of_records → ⊥) → None ≡ fields_in_type k
fields_in_type-other (struct fs n) other = absurd (other refl)
fields_in_type-other k other = refl

pub other_than_records : (d : DType) → ((s : StructFields) (n : outer.Nullability) → d ≡ type.Struct s n → ⊥) → None ≡ fields_in_type (type_of d)
other_than_records d other = has_other of_records fields_in_type None fields_in_type-other d (λ h. other h.0 h.1 h.2)

variants_in_type-other : (k : LogicalType) → (form k ≡ of_unions → ⊥) → None ≡ variants_in_type k
variants_in_type-other (union vs n) other = absurd (other refl)
variants_in_type-other k other = refl

pub other_than_unions : (d : DType) → ((u : UnionVariants) (n : outer.Nullability) → d ≡ type.Union u n → ⊥) → None ≡ variants_in_type (type_of d)
other_than_unions d other = has_other of_unions variants_in_type None variants_in_type-other d (λ h. other h.0 h.1 h.2)

is_variant_type-other : (k : LogicalType) → (form k ≡ of_variants → ⊥) → false ≡ is_variant_type k
is_variant_type-other (variant n) other = absurd (other refl)
is_variant_type-other k other = refl

pub other_than_variants : (d : DType) → ((n : outer.Nullability) → d ≡ type.Variant n → ⊥) → false ≡ is_variant_type (type_of d)
other_than_variants d other = has_other of_variants is_variant_type false is_variant_type-other d (λ h. other h.0 h.1)

extension_in_type-other : (k : LogicalType) → (form k ≡ of_extensions → ⊥) → None ≡ extension_in_type k
extension_in_type-other (extension id meta l) other = absurd (other refl)
extension_in_type-other k other = refl

pub other_than_extensions : (d : DType) → ((x : ExtDTypeRef) → d ≡ type.Extension x → ⊥) → None ≡ extension_in_type (type_of d)
other_than_extensions d other = has_other of_extensions extension_in_type None extension_in_type-other d (λ h. other h.0 h.1)

-- ---- integers and floats

pub numbers_in-type_of_numbers : (k : NumberKind) (n : Nullability) → numbers_in_type (type_of_numbers k n) ≡ Some k
numbers_in-type_of_numbers (integral i) n = refl
numbers_in-type_of_numbers (floating f) n = refl

pub integers-type_of_numbers : (k : NumberKind) (n : Nullability) → is_integer_type (type_of_numbers k n) ≡ is_integral k
integers-type_of_numbers (integral i) n = refl
integers-type_of_numbers (floating f) n = refl

pub floats-type_of_numbers : (k : NumberKind) (n : Nullability) → is_float_type (type_of_numbers k n) ≡ is_real k
floats-type_of_numbers (integral i) n = refl
floats-type_of_numbers (floating f) n = refl

pub leaves-type_of_numbers : (k : NumberKind) (n : Nullability) → is_leaf (type_of_numbers k n) ≡ is_integral k
leaves-type_of_numbers (integral i) n = refl
leaves-type_of_numbers (floating f) n = refl

pub no_element_in_numbers : (k : NumberKind) (n : Nullability) → list_element (type_of_numbers k n) ≡ None
no_element_in_numbers (integral i) n = refl
no_element_in_numbers (floating f) n = refl

pub stored-numbers : (k : NumberKind) (n : Nullability) → stored (type_of_numbers k n) ≡ type_of_numbers k n
stored-numbers (integral i) n = refl
stored-numbers (floating f) n = refl

pub ruleset leaves = (one_level, extension_type-parts, leaves-type_of_numbers)

pub ruleset any_lists = (one_level, extension_type-parts, no_element_in_numbers)

pub ruleset unwrapped = (one_level, extension_type-parts, stored-numbers)

pub ruleset is_int = (one_level, integers-type_of_numbers, other_than_integers)

pub ruleset is_float = (one_level, floats-type_of_numbers, other_than_floats)

pub ruleset numbers = (one_level, numbers_in-type_of_numbers, other_than_numbers)

-- ---- parts

pub kept_some : {X Y : Type 0} (f : X → Y) (o : Option X) (p : Option Y) → option_map f o ≡ p → is_some o ≡ is_some p
kept_some f None p e = ap is_some e
kept_some f (Some x) p e = ap is_some e

pub is_there : {X Y : Type 0} (f : X → Y) (o : Option X) (p : Option Y) → option_map f o ≡ p → is_some p ≡ true → IsSome o
is_there f o p e h = kept_some f o p e ∙ h

-- an extension is its own extension
pub extension_in-extension_type : (x : ExtDTypeRef) → extension_in_type (extension_type x) ≡ Some (extension_type x)
extension_in-extension_type x = ap extension_in_type (extension_type-parts x) ∙ ap (λ k. Some k) (sym (extension_type-parts x))

pub ruleset extensions = (one_level, extension_in-extension_type, other_than_extensions)

pub ruleset decimals = (one_level, other_than_decimals)

pub ruleset lists = (one_level, other_than_lists)

pub ruleset fixed_lists = (one_level, other_than_fixed_lists)

pub ruleset maps = (one_level, other_than_maps)

pub ruleset records = (one_level, other_than_records)

pub ruleset unions = (one_level, other_than_unions)
