-- A converted content is a content of the target type.
use Rattle.std.proofs.Common.{◌≡◌, refl, subst, ℕ, List, false}
use Rattle.vortex_model.specs.LogicalType.{LogicalType, boolean_type, integer_type, utf8, binary, list, fixed_list, mapping, struct, union, variant, extension, Fields, no_fields, field, nullable, stored, nullability_of, with_nullability, IsNullable}
use Rattle.vortex_model.specs.Content.{Content, null, boolean, integer, text, byte_string, tuple, tagged, scalar, Contents, nothing, first}
use Rattle.vortex_model.specs.Valid.{Holds, AllHold, FieldsHold}
use Rattle.vortex_model.specs.Convert.{Converts, AllConvert, FieldsConvert, EqualOutside}
use Rattle.vortex_model.specs.Content.{is_null}

-- outer nullability matters to null alone
pub loosened : (k : LogicalType) (c : Content) → Holds (stored k) c → Holds (stored (with_nullability nullable k)) c
loosened (extension id meta k) c h = loosened k c h
loosened k null h = tt
loosened k c h = h

tightened : (k : LogicalType) (c : Content) → is_null c ≡ false → Holds (stored (with_nullability nullable k)) c → Holds (stored k) c
tightened (extension id meta k) c e h = tightened k c e h
tightened k null e h = absurd (cc (e))
tightened k c e h = h

eq_holds : (s t : LogicalType) (c : Content) → is_null c ≡ false → EqualOutside s t → Holds (stored s) c → Holds (stored t) c
eq_holds s t c e p h = tightened t c e (subst (λ k. Holds (stored k) c) p (loosened s c h))

null_held : (t : LogicalType) → IsNullable (nullability_of t) → IsNullable (nullability_of (stored t))
null_held (extension id meta k) h = null_held k h
null_held t h = h

extension_kept : (id meta : List ℕ) (k t : LogicalType) (c : Content) → Holds (stored k) c → Converts (extension id meta k) t c → Holds (stored t) c
extension_kept id meta k t null v h = null_held t h
extension_kept id meta k t (boolean b) v h = eq_holds (extension id meta k) t (boolean b) refl h v
extension_kept id meta k t (integer z) v h = eq_holds (extension id meta k) t (integer z) refl h v
extension_kept id meta k t (text bs) v h = eq_holds (extension id meta k) t (text bs) refl h v
extension_kept id meta k t (byte_string bs) v h = eq_holds (extension id meta k) t (byte_string bs) refl h v
extension_kept id meta k t (tuple cs) v h = eq_holds (extension id meta k) t (tuple cs) refl h v
extension_kept id meta k t (tagged z c) v h = eq_holds (extension id meta k) t (tagged z c) refl h v
extension_kept id meta k t (scalar l c) v h = eq_holds (extension id meta k) t (scalar l c) refl h v

mutual
  pub kept : (s t : LogicalType) (c : Content) → Holds (stored s) c → Converts s t c → Holds (stored t) c
  kept s t null v h = null_held t h
  kept (extension id meta k) t c v h = extension_kept id meta k t c v h
  kept (boolean_type i) (boolean_type j) (boolean b) v h = tt
  kept s t (boolean b) v h = absurd h
  kept (integer_type p i) (integer_type q j) (integer z) v h = h
  kept s t (integer z) v h = absurd h
  kept (utf8 i) (utf8 j) (text bs) v h = v
  kept s t (text bs) v h = absurd h
  kept (binary i) (binary j) (byte_string bs) v h = v
  kept s t (byte_string bs) v h = absurd h
  kept (union vs n) t (tagged z c) v h = eq_holds (union vs n) t (tagged z c) refl h v
  kept s t (tagged z c) v h = absurd h
  kept (variant n) t (scalar k c) v h = eq_holds (variant n) t (scalar k c) refl h v
  kept s t (scalar k c) v h = absurd h
  kept (mapping a b o n) t (tuple cs) v h = eq_holds (mapping a b o n) t (tuple cs) refl h v
  kept (list a i) (list b j) (tuple cs) v h = all_kept a b cs v h
  kept (list a i) (fixed_list b m j) (tuple cs) v h = (h.0, all_kept a b cs v h.1)
  kept (fixed_list a l i) (list b j) (tuple cs) v h = all_kept a b cs v.1 h
  kept (fixed_list a l i) (fixed_list b m j) (tuple cs) v h = (h.0, all_kept a b cs v.1 h.1)
  kept (struct fs i) (struct gs j) (tuple cs) v h = fields_kept fs gs cs v h
  kept s t (tuple cs) v h = absurd h

  all_kept : (a b : LogicalType) (cs : Contents) → AllHold a cs → AllConvert a b cs → AllHold b cs
  all_kept a b nothing v h = tt
  all_kept a b (first c cs) v h = (kept a b c v.0 h.0, all_kept a b cs v.1 h.1)

  fields_kept : (fs gs : Fields) (cs : Contents) → FieldsHold fs cs → FieldsConvert fs gs cs → FieldsHold gs cs
  fields_kept no_fields no_fields nothing v h = tt
  fields_kept (field x a fs) (field y b gs) (first c cs) v h = (kept a b c v.0 h.0, fields_kept fs gs cs v.1 h.1)
  fields_kept fs gs cs v h = absurd h
