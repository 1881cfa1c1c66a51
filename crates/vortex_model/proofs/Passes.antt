-- Where the relations hold, the tests pass.
use Rattle.std.proofs.Common.{◌≡◌, refl, subst, ℕ, ℤ, List, [], ◌∷◌, Bool, true, false, ◌==◌, T, nat_lt}
use Rattle.std.proofs.lemmas.Bool.{eq-eqb, lt-ltb, and_from}
use Rattle.std.proofs.lemmas.Bool.Decides.{Decides-int_eq}
use Rattle.std.specs.Cmp.Lexicographic.{bytes_decides}
use Rattle.std.specs.Ordering.{int_eq}
use Rattle.std.specs.Int.Signed.{le_z}
use Rattle.std.specs.Str.{bytes_eq}
use Rattle.std.proofs.lemmas.Str.{is_utf8-from_IsUtf8}
use Rattle.vortex_model.specs.LogicalType.{LogicalType, null_only, boolean_type, integer_type, float, decimal, utf8, binary, list, fixed_list, mapping, struct, union, variant, extension, Fields, no_fields, field, Variants, no_variants, choice, Nullability, non_nullable, nullable, stored, nullability_of, type_tagged, IsNullable, IntKind, eq_nullability, eq_flag, eq_int_kind, eq_type, eq_fields, eq_variants, is_nullable, with_nullability}
use Rattle.vortex_model.specs.Content.{Content, null, boolean, integer, text, byte_string, tuple, tagged, scalar, Contents, nothing, first, count, Raw, raw_null, raw_boolean, raw_number, raw_text, raw_byte_string, raw_tuple, raw_tagged, raw_scalar, Raws, no_raws, raw_first, raw_count}
use Rattle.vortex_model.specs.Valid.{InRange, in_range, least_number, greatest_number, AreBytes, are_bytes, Has, AllHave, EntriesHave, FieldsHave, has, all_have, entries_have, fields_have}
use Rattle.vortex_model.specs.Convert.{Converts, AllConvert, FieldsConvert, EqualOutside, eq_outside, converts, all_convert, fields_convert}

test_passes : (b : Bool) → T b → b ≡ true
test_passes true h = refl
test_passes false h = absurd h

pub number_same : (n : ℕ) → (n == n) ≡ true
number_same n = eq-eqb n n refl

int_same : (z : ℤ) → int_eq z z ≡ true
int_same z = (Decides-int_eq z z).1 refl

bytes_same : (bs : List ℕ) → bytes_eq bs bs ≡ true
bytes_same bs = (bytes_decides bs bs).1 refl

nullability_same : (n : Nullability) → eq_nullability n n ≡ true
nullability_same non_nullable = refl
nullability_same nullable = refl

flag_same : (b : Bool) → eq_flag b b ≡ true
flag_same true = refl
flag_same false = refl

mutual
  kind_same : (k : LogicalType) → eq_type k k ≡ true
  kind_same null_only = refl
  kind_same (boolean_type n) = nullability_same n
  kind_same (integer_type i n) = and_from _ _ (number_same _) (nullability_same n)
  kind_same (float f n) = and_from _ _ (number_same _) (nullability_same n)
  kind_same (decimal p s n) = and_from _ _ (and_from _ _ (number_same p) (int_same s)) (nullability_same n)
  kind_same (utf8 n) = nullability_same n
  kind_same (binary n) = nullability_same n
  kind_same (list k n) = and_from _ _ (kind_same k) (nullability_same n)
  kind_same (fixed_list k i n) = and_from _ _ (and_from _ _ (kind_same k) (number_same i)) (nullability_same n)
  kind_same (mapping k v s n) = and_from _ _ (and_from _ _ (and_from _ _ (kind_same k) (kind_same v)) (flag_same s)) (nullability_same n)
  kind_same (struct fs n) = and_from _ _ (fields_same fs) (nullability_same n)
  kind_same (union vs n) = and_from _ _ (variants_same vs) (nullability_same n)
  kind_same (variant n) = nullability_same n
  kind_same (extension x a k) = and_from _ _ (and_from _ _ (bytes_same x) (bytes_same a)) (kind_same k)

  fields_same : (fs : Fields) → eq_fields fs fs ≡ true
  fields_same no_fields = refl
  fields_same (field x k fs) = and_from _ _ (and_from _ _ (bytes_same x) (kind_same k)) (fields_same fs)

  variants_same : (vs : Variants) → eq_variants vs vs ≡ true
  variants_same no_variants = refl
  variants_same (choice x t k vs) = and_from _ _ (and_from _ _ (and_from _ _ (bytes_same x) (int_same t)) (kind_same k)) (variants_same vs)

pub kinds_pass : (k l : LogicalType) → k ≡ l → eq_type k l ≡ true
kinds_pass k l e = subst (λ m. eq_type k m ≡ true) e (kind_same k)

nullable_passes : (n : Nullability) → IsNullable n → is_nullable n ≡ true
nullable_passes nullable h = refl
nullable_passes non_nullable h = absurd h

pub range_passes : (i : IntKind) (z : ℤ) → InRange i z → in_range i z ≡ true
range_passes i z h = and_from _ _ (test_passes (le_z (least_number i) z) h.from.le) (test_passes (le_z z (greatest_number i)) h.to.le)

int_kind_passes : (i j : IntKind) → i ≡ j → eq_int_kind i j ≡ true
int_kind_passes i j e = subst (λ k. eq_int_kind i k ≡ true) e (number_same _)

pub bytes_pass : (bs : List ℕ) → AreBytes bs → are_bytes bs ≡ true
bytes_pass [] h = refl
bytes_pass (b ∷ bs) h = and_from (nat_lt b 256) (are_bytes bs) (lt-ltb b 256 h.0) (bytes_pass bs h.1)

mutual
  pub has_passes : (k : LogicalType) (r : Raw) → Has k r → has k r ≡ true
  has_passes k raw_null h = nullable_passes (nullability_of k) h
  has_passes (boolean_type n) (raw_boolean b) h = refl
  has_passes k (raw_boolean b) h = absurd h
  has_passes (integer_type i n) (raw_number j z) h = and_from _ _ (int_kind_passes j i h.0) (range_passes i z h.1)
  has_passes k (raw_number j z) h = absurd h
  has_passes (utf8 n) (raw_text bs) h = is_utf8-from_IsUtf8 bs h
  has_passes k (raw_text bs) h = absurd h
  has_passes (binary n) (raw_byte_string bs) h = bytes_pass bs h
  has_passes k (raw_byte_string bs) h = absurd h
  has_passes (list k n) (raw_tuple rs) h = all_pass k rs h
  has_passes (fixed_list k m n) (raw_tuple rs) h = and_from _ _ (eq-eqb (raw_count rs) m h.0) (all_pass k rs h.1)
  has_passes (mapping k v s n) (raw_tuple rs) h = entries_pass k v rs h
  has_passes (struct fs n) (raw_tuple rs) h = fields_pass fs rs h
  has_passes k (raw_tuple rs) h = absurd h
  has_passes (union vs n) (raw_tagged t r) h = and_from _ _ h.0 (has_passes (stored (type_tagged vs t)) r h.1)
  has_passes k (raw_tagged t r) h = absurd h
  has_passes (variant n) (raw_scalar k r) h = has_passes (stored k) r h
  has_passes k (raw_scalar l r) h = absurd h

  all_pass : (k : LogicalType) (rs : Raws) → AllHave k rs → all_have k rs ≡ true
  all_pass k no_raws h = refl
  all_pass k (raw_first r rs) h = and_from _ _ (has_passes (stored k) r h.0) (all_pass k rs h.1)

  entries_pass : (k v : LogicalType) (rs : Raws) → EntriesHave k v rs → entries_have k v rs ≡ true
  entries_pass k v no_raws h = refl
  entries_pass k v (raw_first (raw_tuple (raw_first a (raw_first b no_raws))) rs) h =
      and_from _ _ (and_from _ _ (has_passes (stored k) a h.0) (has_passes (stored v) b h.1)) (entries_pass k v rs h.2)
  entries_pass k v rs h = absurd h

  fields_pass : (fs : Fields) (rs : Raws) → FieldsHave fs rs → fields_have fs rs ≡ true
  fields_pass no_fields no_raws h = refl
  fields_pass (field x k fs) (raw_first r rs) h = and_from _ _ (has_passes (stored k) r h.0) (fields_pass fs rs h.1)
  fields_pass fs rs h = absurd h

outside_passes : (s t : LogicalType) → EqualOutside s t → eq_outside s t ≡ true
outside_passes s t e = kinds_pass (with_nullability nullable s) (with_nullability nullable t) e

mutual
  pub converts_passes : (s t : LogicalType) (c : Content) → Converts s t c → converts s t c ≡ true
  converts_passes s t null h = nullable_passes (nullability_of t) h
  converts_passes (extension id meta k) t (boolean b) h = outside_passes (extension id meta k) t h
  converts_passes (extension id meta k) t (integer z) h = outside_passes (extension id meta k) t h
  converts_passes (extension id meta k) t (text bs) h = outside_passes (extension id meta k) t h
  converts_passes (extension id meta k) t (byte_string bs) h = outside_passes (extension id meta k) t h
  converts_passes (extension id meta k) t (tuple cs) h = outside_passes (extension id meta k) t h
  converts_passes (extension id meta k) t (tagged z c) h = outside_passes (extension id meta k) t h
  converts_passes (extension id meta k) t (scalar l c) h = outside_passes (extension id meta k) t h
  converts_passes (boolean_type i) (boolean_type j) (boolean b) h = refl
  converts_passes s t (boolean b) h = absurd h
  converts_passes (integer_type i n) (integer_type j m) (integer z) h = range_passes j z h
  converts_passes s t (integer z) h = absurd h
  converts_passes (utf8 i) (utf8 j) (text bs) h = refl
  converts_passes s t (text bs) h = absurd h
  converts_passes (binary i) (binary j) (byte_string bs) h = refl
  converts_passes s t (byte_string bs) h = absurd h
  converts_passes (union vs n) t (tagged z c) h = outside_passes (union vs n) t h
  converts_passes s t (tagged z c) h = absurd h
  converts_passes (variant n) t (scalar k c) h = outside_passes (variant n) t h
  converts_passes s t (scalar k c) h = absurd h
  converts_passes (mapping a b o n) t (tuple cs) h = outside_passes (mapping a b o n) t h
  converts_passes (list a i) (list b j) (tuple cs) h = all_converts a b cs h
  converts_passes (list a i) (fixed_list b m j) (tuple cs) h = and_from _ _ (eq-eqb (count cs) m h.0) (all_converts a b cs h.1)
  converts_passes (fixed_list a l i) (list b j) (tuple cs) h = all_converts a b cs h
  converts_passes (fixed_list a l i) (fixed_list b m j) (tuple cs) h = and_from _ _ (eq-eqb (count cs) m h.0) (all_converts a b cs h.1)
  converts_passes (struct fs i) (struct gs j) (tuple cs) h = every_field fs gs cs h
  converts_passes s t (tuple cs) h = absurd h

  all_converts : (a b : LogicalType) (cs : Contents) → AllConvert a b cs → all_convert a b cs ≡ true
  all_converts a b nothing h = refl
  all_converts a b (first c cs) h = and_from _ _ (converts_passes a b c h.0) (all_converts a b cs h.1)

  every_field : (fs gs : Fields) (cs : Contents) → FieldsConvert fs gs cs → fields_convert fs gs cs ≡ true
  every_field no_fields no_fields nothing h = refl
  every_field (field x a fs) (field y b gs) (first c cs) h = and_from _ _ (converts_passes a b c h.0) (every_field fs gs cs h.1)
  every_field fs gs cs h = absurd h
