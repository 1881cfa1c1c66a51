-- Scalars are valid as they are made.
use Rattle.std.proofs.Common.{◌≡◌, IsUtf8, ℕ, List, true, ap, ◌∙◌, sym, rules}
use Rattle.std.proofs.lemmas.Str.{is_utf8-from_IsUtf8}
use Rattle.vortex_model.specs.LogicalType.{utf8, binary}
use Rattle.vortex_model.specs.Content.{Raw}
use Rattle.vortex_model.specs.Valid.{valid, are_bytes}
use Rattle.vortex_dtype_ptype.specs.View.{nullability_of_flag}
use Rattle.vortex_dtype_ptype.specs.declared.nullability.Nullability as outer
use Rattle.vortex_dtype_core.specs.Equal.{eq_type-decides}
use Rattle.vortex_dtype_core.specs.Parts.{storage_of}
use Rattle.vortex_dtype_core.specs.View.{type_of, extension_type}
use Rattle.vortex_dtype_core.specs.declared.dtype.DType as type
use Rattle.vortex_dtype_core.specs.declared.extension.ExtDTypeRef.{ExtDTypeRef}
use Rattle.vortex_dtype_core.proofs.Views as types
use Rattle.vortex_scalar_value.specs.View.{raw_of}
use Rattle.vortex_scalar_value.specs.declared.scalar_value.ScalarValue as value
use Rattle.vortex_scalar_value.specs.declared.scalar_value.ScalarValue.{ScalarValue}
use Rattle.vortex_scalar_value.proofs.Views as values
use Rattle.vortex_scalar_value.proofs.Views.{raw_of-Utf8, raw_of-Binary}

-- a string is valid for its type, and bytes are for theirs
pub text_valid : (n : outer.Nullability) (t : List ℕ) → IsUtf8 t → valid (type_of (type.Utf8 n)) (raw_of (value.Utf8 t)) ≡ true
text_valid n t u =
    let k : type_of (type.Utf8 n) ≡ utf8 (nullability_of_flag n) = search (rules, type.the_lemmas) in
    (λ i. valid (k i) (raw_of-Utf8 t i)) ∙ is_utf8-from_IsUtf8 t u

pub bytes_valid : (n : outer.Nullability) (b : List ℕ) → are_bytes b ≡ true → valid (type_of (type.Binary n)) (raw_of (value.Binary b)) ≡ true
bytes_valid n b u =
    let k : type_of (type.Binary n) ≡ binary (nullability_of_flag n) = search (rules, type.the_lemmas) in
    (λ i. valid (k i) (raw_of-Binary b i)) ∙ u

-- an extension has the values of its storage type
pub valid-storage : (x : ExtDTypeRef) (r : Raw) → valid (extension_type x) r ≡ valid (storage_of (extension_type x)) r
valid-storage x r = ap (λ k. valid k r) (types.extension_type-parts x) ∙ sym (ap (λ k. valid (storage_of k) r) (types.extension_type-parts x))

pub ruleset leaves = (types.one_level, values.one_level)

pub ruleset extensions = (types.type_of-Extension, valid-storage, eq_type-decides)

pub ruleset variants = (types.one_level, values.one_level)
