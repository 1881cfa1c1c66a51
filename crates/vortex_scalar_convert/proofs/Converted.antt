-- A value converts to its own type, also from the nullable type.
use Rattle.std.proofs.Common.{◌≡◌, refl, ap}
use Rattle.vortex_model.specs.LogicalType.{LogicalType, boolean_type, integer_type, utf8, binary, list, fixed_list, mapping, struct, union, variant, extension, Fields, no_fields, field, nullable, stored, IsNullable, nullability_of, with_nullability}
use Rattle.vortex_model.specs.Content.{Content, null, boolean, integer, text, byte_string, tuple, tagged, scalar, Contents, nothing, first}
use Rattle.vortex_model.specs.Valid.{Holds, AllHold, FieldsHold}
use Rattle.vortex_model.specs.Convert.{Converts, AllConvert, FieldsConvert}

pub null_outside : (k : LogicalType) → IsNullable (nullability_of (stored k)) → IsNullable (nullability_of k)
null_outside (extension id meta k) h = null_outside k h
null_outside k h = h

mutual
  pub to_itself : (k : LogicalType) (c : Content) → Holds (stored k) c → Converts k k c
  to_itself k null h = null_outside k h
  to_itself (extension id meta k) (boolean b) h = refl
  to_itself (extension id meta k) (integer z) h = refl
  to_itself (extension id meta k) (text bs) h = refl
  to_itself (extension id meta k) (byte_string bs) h = refl
  to_itself (extension id meta k) (tuple cs) h = refl
  to_itself (extension id meta k) (tagged t c) h = refl
  to_itself (extension id meta k) (scalar l c) h = refl
  to_itself (boolean_type n) (boolean b) h = tt
  to_itself (integer_type i n) (integer z) h = h
  to_itself (utf8 n) (text bs) h = tt
  to_itself (binary n) (byte_string bs) h = tt
  to_itself (list k n) (tuple cs) h = all_to_itself k cs h
  to_itself (fixed_list k m n) (tuple cs) h = (h.0, all_to_itself k cs h.1)
  to_itself (mapping k v s n) (tuple cs) h = refl
  to_itself (struct fs n) (tuple cs) h = fields_to_itself fs cs h
  to_itself (union vs n) (tagged t c) h = refl
  to_itself (variant n) (scalar l c) h = refl
  to_itself k c h = absurd h

  all_to_itself : (k : LogicalType) (cs : Contents) → AllHold k cs → AllConvert k k cs
  all_to_itself k nothing h = tt
  all_to_itself k (first c cs) h = (to_itself k c h.0, all_to_itself k cs h.1)

  fields_to_itself : (fs : Fields) (cs : Contents) → FieldsHold fs cs → FieldsConvert fs fs cs
  fields_to_itself no_fields nothing h = tt
  fields_to_itself (field x k fs) (first c cs) h = (to_itself k c h.0, fields_to_itself fs cs h.1)
  fields_to_itself fs cs h = absurd h

nullable_twice : (k : LogicalType) → with_nullability nullable (with_nullability nullable k) ≡ with_nullability nullable k
nullable_twice (extension id meta k) = ap (λ l. extension id meta l) (nullable_twice k)
nullable_twice k = refl

pub from_nullable : (k : LogicalType) (c : Content) → Holds (stored k) c → Converts (with_nullability nullable k) k c
from_nullable k null h = null_outside k h
from_nullable (extension id meta k) (boolean b) h = nullable_twice (extension id meta k)
from_nullable (extension id meta k) (integer z) h = nullable_twice (extension id meta k)
from_nullable (extension id meta k) (text bs) h = nullable_twice (extension id meta k)
from_nullable (extension id meta k) (byte_string bs) h = nullable_twice (extension id meta k)
from_nullable (extension id meta k) (tuple cs) h = nullable_twice (extension id meta k)
from_nullable (extension id meta k) (tagged t c) h = nullable_twice (extension id meta k)
from_nullable (extension id meta k) (scalar l c) h = nullable_twice (extension id meta k)
from_nullable (boolean_type n) (boolean b) h = tt
from_nullable (integer_type i n) (integer z) h = h
from_nullable (utf8 n) (text bs) h = tt
from_nullable (binary n) (byte_string bs) h = tt
from_nullable (list k n) (tuple cs) h = all_to_itself k cs h
from_nullable (fixed_list k m n) (tuple cs) h = (h.0, all_to_itself k cs h.1)
from_nullable (mapping k v s n) (tuple cs) h = refl
from_nullable (struct fs n) (tuple cs) h = fields_to_itself fs cs h
from_nullable (union vs n) (tagged t c) h = refl
from_nullable (variant n) (scalar l c) h = refl
from_nullable k c h = absurd h
