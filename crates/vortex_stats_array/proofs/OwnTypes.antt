-- Values of leaf columns as values of their types.
use Rattle.std.proofs.Common.{◌≡◌, refl, sym, ap, ◌∙◌, subst, rules, ◌&&◌, true, false, ℕ, List, ℤ, Bool, Option, Some, None, IfSome, IsUtf8}
use Rattle.std.proofs.lemmas.Str.{is_utf8-from_IsUtf8}
use Rattle.vortex_model.specs.LogicalType.{LogicalType, Nullability, IntKind, u8, u16, u32, u64, i8, i16, i32, i64, null_only, boolean_type, integer_type, float, decimal, utf8, binary, list, fixed_list, mapping, struct, union, variant, extension, eq_int_kind, nullability_of, with_nullability}
use Rattle.vortex_model.specs.Content.{raw_byte_string}
use Rattle.vortex_model.specs.Kept.{is_leaf}
use Rattle.vortex_model.specs.Valid.{AreBytes, valid, has, in_range}
use Rattle.vortex_model.proofs.Passes.{has_passes}
use Rattle.vortex_dtype_ptype.specs.Numbers.{NumberKind, integral, floating, int_kind_in}
use Rattle.vortex_dtype_ptype.specs.View.{nullability_of_flag}
use Rattle.vortex_dtype_ptype.specs.declared.nullability.Nullability as outer
use Rattle.vortex_dtype_core.specs.View.{type_of}
use Rattle.vortex_dtype_core.specs.declared.dtype.DType as type
use Rattle.vortex_dtype_core.specs.declared.dtype.DType.{DType}
use Rattle.vortex_scalar_value.specs.Numbers.{integer_of, kind_of_number}
use Rattle.vortex_scalar_value.specs.View.{raw_of}
use Rattle.vortex_scalar_value.specs.declared.pvalue.PValue.{PValue}
use Rattle.vortex_scalar_value.specs.declared.scalar_value.ScalarValue as value
use Rattle.vortex_scalar_value.proofs.Views.{one_level, raw_of-Bool, raw_of-Primitive, raw_of-Utf8, raw_of-Binary}
use Rattle.vortex_stats_array.specs.Arrays.{IsBooleanType, IsIntegerOf, IsTextType, IsBinaryType}

pub truth_valid : (k : LogicalType) (b : Bool) → IsBooleanType k → valid k (raw_of (value.Bool b)) ≡ true
truth_valid (boolean_type n) b h = ap (has (boolean_type n)) (raw_of-Bool b)
truth_valid k b h = absurd h

same_kind : (i : IntKind) → eq_int_kind i i ≡ true
same_kind u8 = refl
same_kind u16 = refl
same_kind u32 = refl
same_kind u64 = refl
same_kind i8 = refl
same_kind i16 = refl
same_kind i32 = refl
same_kind i64 = refl

pub number_valid : (k : LogicalType) (i : IntKind) (v : PValue) (z : ℤ) → IsIntegerOf i k → kind_of_number v ≡ i → integer_of v ≡ z → in_range i z ≡ true →
    valid k (raw_of (value.Primitive v)) ≡ true
number_valid (integer_type j n) i v z h kind number held =
    ap (has (integer_type j n)) (raw_of-Primitive v)
    ∙ (λ t. eq_int_kind ((kind ∙ sym h) t) j && in_range (h t) (number t))
    ∙ (λ t. same_kind j t && held t)
number_valid k i v z h kind number held = absurd h

pub text_valid : (k : LogicalType) (t : List ℕ) → IsTextType k → IsUtf8 t → valid k (raw_of (value.Utf8 t)) ≡ true
text_valid (utf8 n) t h u = ap (has (utf8 n)) (raw_of-Utf8 t) ∙ is_utf8-from_IsUtf8 t u
text_valid k t h u = absurd h

pub bytes_valid : (k : LogicalType) (b : List ℕ) → IsBinaryType k → AreBytes b → valid k (raw_of (value.Binary b)) ≡ true
bytes_valid (binary n) b h u = ap (has (binary n)) (raw_of-Binary b) ∙ has_passes (binary n) (raw_byte_string b) u
bytes_valid k b h u = absurd h

pub ruleset truths = (one_level, truth_valid)

-- a number of an integer type, as one of that type
pub some_kind : (o : Option PValue) (k : NumberKind) → IfSome o (λ v. integral (kind_of_number v) ≡ k) → IfSome o (λ v. Some (kind_of_number v) ≡ int_kind_in k)
some_kind None k h = tt
some_kind (Some v) k h = ap int_kind_in h

abbrev kind_or : IntKind → NumberKind → IntKind
kind_or j (integral i) = i
kind_or j (floating f) = j

pub kind_is : (i : IntKind) (v : PValue) (k : NumberKind) → integral (kind_of_number v) ≡ k → k ≡ integral i → kind_of_number v ≡ i
kind_is i v k e f = ap (kind_or i) (e ∙ f)

-- ---- a type that was matched

pub own_truths : (d : DType) (n : outer.Nullability) (k : LogicalType) → d ≡ type.Bool n → type_of d ≡ k → IsBooleanType k
own_truths d n k e h =
    let is : type_of (type.Bool n) ≡ boolean_type (nullability_of_flag n) = search (rules, type.the_lemmas) in
    subst IsBooleanType (sym is ∙ sym (ap type_of e) ∙ h) tt

pub own_texts : (d : DType) (n : outer.Nullability) (k : LogicalType) → d ≡ type.Utf8 n → type_of d ≡ k → IsTextType k
own_texts d n k e h =
    let is : type_of (type.Utf8 n) ≡ utf8 (nullability_of_flag n) = search (rules, type.the_lemmas) in
    subst IsTextType (sym is ∙ sym (ap type_of e) ∙ h) tt

pub own_bytes : (d : DType) (n : outer.Nullability) (k : LogicalType) → d ≡ type.Binary n → type_of d ≡ k → IsBinaryType k
own_bytes d n k e h =
    let is : type_of (type.Binary n) ≡ binary (nullability_of_flag n) = search (rules, type.the_lemmas) in
    subst IsBinaryType (sym is ∙ sym (ap type_of e) ∙ h) tt

-- ---- up to nullability

pub truths_stay : (n : Nullability) (k : LogicalType) → IsBooleanType k → IsBooleanType (with_nullability n k)
truths_stay n (boolean_type m) h = tt
truths_stay n k h = absurd h

pub integers_stay : (i : IntKind) (n : Nullability) (k : LogicalType) → IsIntegerOf i k → IsIntegerOf i (with_nullability n k)
integers_stay i n (integer_type j m) h = h
integers_stay i n k h = absurd h

pub texts_stay : (n : Nullability) (k : LogicalType) → IsTextType k → IsTextType (with_nullability n k)
texts_stay n (utf8 m) h = tt
texts_stay n k h = absurd h

pub bytes_stay : (n : Nullability) (k : LogicalType) → IsBinaryType k → IsBinaryType (with_nullability n k)
bytes_stay n (binary m) h = tt
bytes_stay n k h = absurd h

pub own_nullability : (k : LogicalType) → is_leaf k ≡ true → with_nullability (nullability_of k) k ≡ k
own_nullability (boolean_type m) h = refl
own_nullability (integer_type i m) h = refl
own_nullability (utf8 m) h = refl
own_nullability (binary m) h = refl
own_nullability k h = absurd (cc h)

-- the last nullability applies
pub last_nullability : (n m : Nullability) (k : LogicalType) → with_nullability n (with_nullability m k) ≡ with_nullability n k
last_nullability n m null_only = refl
last_nullability n m (boolean_type o) = refl
last_nullability n m (integer_type i o) = refl
last_nullability n m (float f o) = refl
last_nullability n m (decimal p s o) = refl
last_nullability n m (utf8 o) = refl
last_nullability n m (binary o) = refl
last_nullability n m (list k o) = refl
last_nullability n m (fixed_list k j o) = refl
last_nullability n m (mapping k v s o) = refl
last_nullability n m (struct fs o) = refl
last_nullability n m (union vs o) = refl
last_nullability n m (variant o) = refl
last_nullability n m (extension a b k) = ap (extension a b) (last_nullability n m k)
