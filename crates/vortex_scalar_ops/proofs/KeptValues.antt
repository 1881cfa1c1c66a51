-- Values that a cast leaves as they are, where the types are equal up to outer nullability.
use Rattle.std.proofs.Common.{◌≡◌, ◌||◌, true, false, refl, sym, ap, ◌∙◌}
use Rattle.vortex_model.specs.LogicalType.{LogicalType, boolean_type, integer_type, utf8, binary, list, mapping, union, variant, extension, stored, nullable, with_nullability}
use Rattle.vortex_model.specs.Content.{Raw, raw_null, raw_boolean, raw_number, raw_text, raw_byte_string, raw_tuple, raw_tagged, raw_scalar, content_of, is_null}
use Rattle.vortex_model.specs.Valid.{has, valid}
use Rattle.vortex_model.specs.Convert.{converts, eq_outside}
use Rattle.vortex_model.proofs.Tests.{kind_so}
use Rattle.vortex_dtype_core.specs.Parts.{is_map_type, is_union_type, is_variant_type, is_extension_type}
use Rattle.vortex_scalar_ops.specs.Converting.{is_identity_cast}
use Rattle.vortex_scalar_value.proofs.Nulls.{is_null-raw_of}

pub kept_kinds : (k : LogicalType) → (is_map_type k || is_union_type k || is_variant_type k || is_extension_type k) ≡ is_identity_cast k
kept_kinds (mapping k v s n) = refl
kept_kinds (union vs n) = refl
kept_kinds (variant n) = refl
kept_kinds (extension id meta k) = refl
kept_kinds k = refl

-- outer nullability matters to null alone
pub outside : (k : LogicalType) (r : Raw) → is_null (content_of r) ≡ false → has (stored (with_nullability nullable k)) r ≡ has (stored k) r
outside k raw_null h = absurd (cc (h))
outside (extension id meta k) r h = outside k r h
outside (boolean_type m) (raw_boolean b) h = refl
outside (integer_type i m) (raw_number j z) h = refl
outside (utf8 m) (raw_text bs) h = refl
outside (binary m) (raw_byte_string bs) h = refl
outside (list k m) (raw_tuple rs) h = refl
outside (union vs m) (raw_tagged t r) h = refl
outside (variant m) (raw_scalar k r) h = refl
outside k r h = refl

eq_stored : (s t : LogicalType) (r : Raw) → is_null (content_of r) ≡ false → eq_outside s t ≡ true → has (stored s) r ≡ has (stored t) r
eq_stored s t r h e = sym (outside s r h) ∙ ap (λ k. has (stored k) r) (kind_so (with_nullability nullable s) (with_nullability nullable t) e) ∙ outside t r h

pub kept_valid : (s t : LogicalType) (r : Raw) → is_null (content_of r) ≡ false → eq_outside s t ≡ true → valid s r ≡ true → valid t r ≡ true
kept_valid s t r h e v = sym (eq_stored s t r h e) ∙ v

pub kept_converts : (s t : LogicalType) (r : Raw) → is_identity_cast s ≡ true → is_null (content_of r) ≡ false → eq_outside s t ≡ true → valid s r ≡ true → converts s t (content_of r) ≡ true
kept_converts s t raw_null p h e v = absurd (cc (h))
kept_converts (mapping k l b n) t (raw_tuple rs) p h e v = e
kept_converts (mapping k l b n) t r p h e v = absurd (cc (v))
kept_converts (union vs n) t (raw_tagged u r) p h e v = e
kept_converts (union vs n) t r p h e v = absurd (cc (v))
kept_converts (variant n) t (raw_scalar l r) p h e v = e
kept_converts (variant n) t r p h e v = absurd (cc (v))
kept_converts (extension id meta k) t (raw_boolean b) p h e v = e
kept_converts (extension id meta k) t (raw_number j z) p h e v = e
kept_converts (extension id meta k) t (raw_text bs) p h e v = e
kept_converts (extension id meta k) t (raw_byte_string bs) p h e v = e
kept_converts (extension id meta k) t (raw_tuple rs) p h e v = e
kept_converts (extension id meta k) t (raw_tagged u r) p h e v = e
kept_converts (extension id meta k) t (raw_scalar l r) p h e v = e
kept_converts s t r p h e v = absurd (cc (p))

pub kept_refused : (s t : LogicalType) (r : Raw) → is_identity_cast s ≡ true → is_null (content_of r) ≡ false → eq_outside s t ≡ false → converts s t (content_of r) ≡ false
kept_refused s t raw_null p h e = absurd (cc (h))
kept_refused (mapping k l b n) t (raw_tuple rs) p h e = e
kept_refused (mapping k l b n) t r p h e = refl
kept_refused (union vs n) t (raw_tagged u r) p h e = e
kept_refused (union vs n) t r p h e = refl
kept_refused (variant n) t (raw_scalar l r) p h e = e
kept_refused (variant n) t r p h e = refl
kept_refused (extension id meta k) t (raw_boolean b) p h e = e
kept_refused (extension id meta k) t (raw_number j z) p h e = e
kept_refused (extension id meta k) t (raw_text bs) p h e = e
kept_refused (extension id meta k) t (raw_byte_string bs) p h e = e
kept_refused (extension id meta k) t (raw_tuple rs) p h e = e
kept_refused (extension id meta k) t (raw_tagged u r) p h e = e
kept_refused (extension id meta k) t (raw_scalar l r) p h e = e
kept_refused s t r p h e = absurd (cc (p))

pub ruleset kept = (is_null-raw_of, kept_valid, kept_converts, kept_refused)
