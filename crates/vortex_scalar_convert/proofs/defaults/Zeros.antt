-- Zeros are valid for their types and pass the test for zero; for a type without `Variant` at any
-- level, only its zero passes.
use Rattle.std.proofs.Common.{◌≡◌, ◌&&◌, ◌||◌, ◌==◌, refl, sym, ap, subst, ◌∙◌, ℕ, zero, suc, ℤ, pos, Bool, true, false, List, [], ◌∷◌, Option, Some, None, option_map, is_some, if◌then◌else◌, rules}
use Rattle.std.specs.Cmp.Derive.{both_true}
use Rattle.std.specs.Ordering.{int_eq}
use Rattle.std.proofs.lemmas.Cmp.{int_eq_equiv}
use Rattle.std.proofs.lemmas.Str.{is_utf8-from_IsUtf8, IsUtf8-from_ascii}
use Rattle.std.proofs.lemmas.Bool.{and_parts, or_parts, eqb-true, eq-eqb}
use Rattle.vortex_model.specs.LogicalType.{LogicalType, Nullability, IntKind, u8, u16, u32, u64, i8, i16, i32, i64, eq_int_kind, null_only, boolean_type, integer_type, float, decimal, utf8, binary, list, fixed_list, mapping, struct, union, variant, extension, Fields, no_fields, field, Variants, no_variants, choice, stored, has_tag, type_tagged, is_nullable, nullability_of}
use Rattle.vortex_model.specs.Content.{Raw, raw_null, raw_boolean, raw_number, raw_text, raw_byte_string, raw_tuple, raw_tagged, Raws, no_raws, raw_first, raw_count, content_of, is_null}
use Rattle.vortex_model.specs.Valid.{valid, has, all_have, fields_have}
use Rattle.vortex_model.proofs.Tests.{int_kind_so, int_so}
use Rattle.vortex_scalar_ops.specs.Equality.{has_variant, field_has_variant, choice_has_variant}
use Rattle.vortex_scalar_ops.proofs.Views.{has-null}
use Rattle.vortex_scalar_convert.specs.defaults.Laws.{ZerosAreZero, OnlyZerosAreZero, DefaultsAreValues, ZerosExist, can_be_zero, fields_can_be_zero, choices_can_be_zero}
use Rattle.vortex_scalar_convert.specs.defaults.Zero.{before, times, zero_of, zeros_of, is_empty, is_zero_in, are_zero, fields_are_zero, is_zero_value}

-- ---- the parts of a result

mapped : {A B : Type 0} (f : A → B) (o : Option A) (b : B) → option_map f o ≡ Some b → (a : A) × (o ≡ Some a) × (f a ≡ b)
mapped f None b e = absurd (cc e)
mapped f (Some a) b e = (a, refl, cc e)

pub opened : (o : Option Raw) (os : Option Raws) (rs : Raws) → before o os ≡ Some rs → (r : Raw) × (qs : Raws) × (o ≡ Some r) × (os ≡ Some qs) × (raw_first r qs ≡ rs)
opened None os rs e = absurd (cc e)
opened (Some r) None rs e = absurd (cc e)
opened (Some r) (Some qs) rs e = (r, qs, refl, refl, cc e)

-- ---- zeros are valid and pass the test

abbrev IsGood : LogicalType → Raw → Type 0
IsGood k r = (has (stored k) r ≡ true) × (is_zero_in (stored k) r ≡ true)

abbrev AreGood : LogicalType → ℕ → Raws → Type 0
AreGood k m rs = (raw_count rs ≡ m) × (all_have k rs ≡ true) × (are_zero k rs ≡ true)

all_good : (k : LogicalType) (m : ℕ) (o : Option Raw) (rs : Raws) → ((r : Raw) → o ≡ Some r → IsGood k r) → times m o ≡ Some rs → AreGood k m rs
all_good k zero o no_raws h e = (refl, refl, refl)
all_good k zero o (raw_first r rs) h e = absurd (cc e)
all_good k (suc m) o rs h e =
    let parts = opened o (times m o) rs e in
    let one = h parts.0 parts.2 in
    let rest = all_good k m o parts.1 h parts.3 in
    let whole : raw_first parts.0 parts.1 ≡ rs = parts.4 in
    (ap raw_count (sym whole) ∙ ap suc rest.0, ap (all_have k) (sym whole) ∙ both_true one.0 rest.1, ap (are_zero k) (sym whole) ∙ both_true one.1 rest.2)

good_as : (k : LogicalType) (q r : Raw) → q ≡ r → IsGood k q → IsGood k r
good_as k q r e h = subst (IsGood k) e h

text_good : (n : Nullability) → IsGood (utf8 n) (raw_text [])
text_good n = (is_utf8-from_IsUtf8 [] (IsUtf8-from_ascii [] (search rules)), refl)

number_good : (i : IntKind) (n : Nullability) → IsGood (integer_type i n) (raw_number i (pos 0))
number_good u8 n = (refl, refl)
number_good u16 n = (refl, refl)
number_good u32 n = (refl, refl)
number_good u64 n = (refl, refl)
number_good i8 n = (refl, refl)
number_good i16 n = (refl, refl)
number_good i32 n = (refl, refl)
number_good i64 n = (refl, refl)

-- the first variant is the one with its tag
chosen_first : (x : List ℕ) (t : ℤ) (k : LogicalType) (vs : Variants) (n : Nullability) (r : Raw) → IsGood k r → IsGood (union (choice x t k vs) n) (raw_tagged t r)
chosen_first x t k vs n r h =
    let itself : int_eq t t ≡ true = int_eq_equiv.refl t in
    (ap (λ b. (b || has_tag vs t) && has (stored (if b then k else type_tagged vs t)) r) itself ∙ h.0, both_true itself h.1)

mutual
  zero_good : (k : LogicalType) (r : Raw) → zero_of k ≡ Some r → IsGood k r
  zero_good (boolean_type n) r e = good_as (boolean_type n) (raw_boolean false) r (cc e) (refl, refl)
  zero_good (integer_type i n) r e = good_as (integer_type i n) (raw_number i (pos 0)) r (cc e) (number_good i n)
  zero_good (utf8 n) r e = good_as (utf8 n) (raw_text []) r (cc e) (text_good n)
  zero_good (binary n) r e = good_as (binary n) (raw_byte_string []) r (cc e) (refl, refl)
  zero_good (list k n) r e = good_as (list k n) (raw_tuple no_raws) r (cc e) (refl, refl)
  zero_good (fixed_list k m n) r e =
      let parts = mapped raw_tuple (times m (zero_of k)) r e in
      let all = all_good k m (zero_of k) parts.0 (zero_good k) parts.1 in
      good_as (fixed_list k m n) (raw_tuple parts.0) r parts.2 (both_true (eq-eqb (raw_count parts.0) m all.0) all.1, all.2)
  zero_good (mapping k v s n) r e = good_as (mapping k v s n) (raw_tuple no_raws) r (cc e) (refl, refl)
  zero_good (struct fs n) r e =
      let parts = mapped raw_tuple (zeros_of fs) r e in
      good_as (struct fs n) (raw_tuple parts.0) r parts.2 (zeros_good fs parts.0 parts.1)
  zero_good (union no_variants n) r e = absurd (cc e)
  zero_good (union (choice x t k vs) n) r e =
      let parts = mapped (raw_tagged t) (zero_of k) r e in
      let one = zero_good k parts.0 parts.1 in
      good_as (union (choice x t k vs) n) (raw_tagged t parts.0) r parts.2 (chosen_first x t k vs n parts.0 one)
  zero_good (extension id meta k) r e = zero_good k r e
  zero_good k r e = absurd (cc e)

  zeros_good : (fs : Fields) (rs : Raws) → zeros_of fs ≡ Some rs → (fields_have fs rs ≡ true) × (fields_are_zero fs rs ≡ true)
  zeros_good no_fields no_raws e = (refl, refl)
  zeros_good no_fields (raw_first r rs) e = absurd (cc e)
  zeros_good (field x k fs) rs e =
      let parts = opened (zero_of k) (zeros_of fs) rs e in
      let one = zero_good k parts.0 parts.2 in
      let rest = zeros_good fs parts.1 parts.3 in
      let whole : raw_first parts.0 parts.1 ≡ rs = parts.4 in
      (ap (fields_have (field x k fs)) (sym whole) ∙ both_true one.0 rest.0, ap (fields_are_zero (field x k fs)) (sym whole) ∙ both_true one.1 rest.1)

not_null : (k : LogicalType) (r : Raw) → is_zero_in k r ≡ true → is_null (content_of r) ≡ false
not_null k raw_null e = absurd (cc e)
not_null k r e = refl

pub zeros_are_zero : ZerosAreZero
zeros_are_zero k r e = let good = zero_good k r e in (good.0, not_null (stored k) r good.1, good.1)

default_by : (b : Bool) (k : LogicalType) (r : Raw) → is_nullable (nullability_of k) ≡ b → (if b then Some raw_null else zero_of k) ≡ Some r → (valid k r ≡ true) × (is_null (content_of r) ≡ b)
default_by true k r h e =
    let is : raw_null ≡ r = cc e in
    (ap (valid k) (sym is) ∙ has-null k ∙ h, ap (λ q. is_null (content_of q)) (sym is))
default_by false k r h e = let all = zeros_are_zero k r e in (all.0, all.1)

pub defaults_are_values : DefaultsAreValues
defaults_are_values k r e = default_by (is_nullable (nullability_of k)) k r refl e

-- ---- only the zero passes

abbrev integers_in : LogicalType → IntKind
integers_in (integer_type i n) = i
integers_in k = u8

none_there : (rs : Raws) → (raw_count rs == 0) ≡ true → no_raws ≡ rs
none_there no_raws e = refl
none_there (raw_first r rs) e = let h : suc (raw_count rs) ≡ 0 = eqb-true (suc (raw_count rs)) 0 e in absurd (cc h)

none_left : (bs : List ℕ) → is_empty bs ≡ true → [] ≡ bs
none_left [] e = refl
none_left (b ∷ bs) e = absurd (cc e)

number_only : (i j : IntKind) (z : ℤ) → eq_int_kind j i ≡ true → int_eq z (pos 0) ≡ true → raw_number i (pos 0) ≡ raw_number j z
number_only i j z e f = ap (λ (l : IntKind). raw_number l (pos 0)) (sym (int_kind_so j i e)) ∙ ap (raw_number j) (sym (int_so z (pos 0) f))

times_only : (k : LogicalType) (m : ℕ) (rs : Raws) → ((r : Raw) → valid k r ≡ true → is_zero_value k r ≡ true → zero_of k ≡ Some r) →
    raw_count rs ≡ m → all_have k rs ≡ true → are_zero k rs ≡ true → times m (zero_of k) ≡ Some rs
times_only k zero no_raws h c v z = refl
times_only k zero (raw_first r rs) h c v z = absurd (cc c)
times_only k (suc m) no_raws h c v z = absurd (cc c)
times_only k (suc m) (raw_first r rs) h c v z =
    let parts = and_parts (valid k r) (all_have k rs) v in
    let zeros = and_parts (is_zero_value k r) (are_zero k rs) z in
    let one = h r parts.0 zeros.0 in
    let rest = times_only k m rs h (cc c) parts.1 zeros.1 in
    ap (λ o. before o (times m o)) one ∙ ap (before (Some r)) (ap (times m) (sym one) ∙ rest)

mutual
  zero_only : (k : LogicalType) (r : Raw) → has_variant k ≡ false → valid k r ≡ true → is_zero_value k r ≡ true → zero_of k ≡ Some r
  zero_only k raw_null h v z = absurd (cc z)
  zero_only (boolean_type n) (raw_boolean false) h v z = refl
  zero_only (boolean_type n) (raw_boolean true) h v z = absurd (cc z)
  zero_only (integer_type i n) (raw_number j y) h v z = ap (λ (r : Raw). Some r) (number_only i j y (and_parts _ _ v).0 z)
  zero_only (utf8 n) (raw_text bs) h v z = ap (λ cs. Some (raw_text cs)) (none_left bs z)
  zero_only (binary n) (raw_byte_string bs) h v z = ap (λ cs. Some (raw_byte_string cs)) (none_left bs z)
  zero_only (list k n) (raw_tuple rs) h v z = ap (λ qs. Some (raw_tuple qs)) (none_there rs z)
  zero_only (mapping k w s n) (raw_tuple rs) h v z = ap (λ qs. Some (raw_tuple qs)) (none_there rs z)
  zero_only (fixed_list k m n) (raw_tuple rs) h v z =
      let parts = and_parts (raw_count rs == m) (all_have k rs) v in
      ap (option_map raw_tuple) (times_only k m rs (λ r. zero_only k r h) (eqb-true (raw_count rs) m parts.0) parts.1 z)
  zero_only (struct fs n) (raw_tuple rs) h v z = ap (option_map raw_tuple) (zeros_only fs rs h v z)
  zero_only (union no_variants n) (raw_tagged u r) h v z = absurd (cc z)
  zero_only (union (choice x t k vs) n) (raw_tagged u r) h v z =
      let parts = and_parts (int_eq t u) (is_zero_in (stored k) r) z in
      let under = and_parts (int_eq t u || has_tag vs u) (has (stored (if int_eq t u then k else type_tagged vs u)) r) v in
      let held : has (stored k) r ≡ true = sym (ap (λ b. has (stored (if b then k else type_tagged vs u)) r) parts.0) ∙ under.1 in
      let one = zero_only k r (or_parts (has_variant k) (choice_has_variant vs) h).0 held parts.1 in
      ap (option_map (raw_tagged t)) one ∙ ap (λ y. Some (raw_tagged y r)) (int_so t u parts.0)
  zero_only (extension id meta k) r h v z = zero_only k r h v z
  zero_only (variant n) r h v z = absurd (cc h)
  zero_only k r h v z = absurd (cc v)

  zeros_only : (fs : Fields) (rs : Raws) → field_has_variant fs ≡ false → fields_have fs rs ≡ true → fields_are_zero fs rs ≡ true → zeros_of fs ≡ Some rs
  zeros_only no_fields no_raws h v z = refl
  zeros_only no_fields (raw_first r rs) h v z = absurd (cc z)
  zeros_only (field x k fs) no_raws h v z = absurd (cc z)
  zeros_only (field x k fs) (raw_first r rs) h v z =
      let none = or_parts (has_variant k) (field_has_variant fs) h in
      let parts = and_parts (has (stored k) r) (fields_have fs rs) v in
      let zeros = and_parts (is_zero_in (stored k) r) (fields_are_zero fs rs) z in
      ap (λ o. before o (zeros_of fs)) (zero_only k r none.0 parts.0 zeros.0) ∙ ap (before (Some r)) (zeros_only fs rs none.1 parts.1 zeros.1)

pub only_zeros_are_zero : OnlyZerosAreZero
only_zeros_are_zero = zero_only

-- ---- which types have a zero

there_after : {A B : Type 0} (f : A → B) (o : Option A) → is_some o ≡ true → is_some (option_map f o) ≡ true
there_after f None e = absurd (cc e)
there_after f (Some a) e = refl

both_there : (o : Option Raw) (os : Option Raws) → is_some o ≡ true → is_some os ≡ true → is_some (before o os) ≡ true
both_there None os e f = absurd (cc e)
both_there (Some r) None e f = absurd (cc f)
both_there (Some r) (Some rs) e f = refl

times_there : (m : ℕ) (o : Option Raw) → is_some o ≡ true → is_some (times m o) ≡ true
times_there zero o e = refl
times_there (suc m) o e = both_there o (times m o) e (times_there m o e)

first_can : (x : List ℕ) (t : ℤ) (k : LogicalType) (vs : Variants) → choices_can_be_zero (choice x t k vs) ≡ true → can_be_zero k ≡ true
first_can x t k no_variants e = e
first_can x t k (choice y u l vs) e = (and_parts (can_be_zero k) (choices_can_be_zero (choice y u l vs)) e).0

mutual
  zero_there : (k : LogicalType) → can_be_zero k ≡ true → is_some (zero_of k) ≡ true
  zero_there (fixed_list k m n) e = there_after raw_tuple (times m (zero_of k)) (times_there m (zero_of k) (zero_there k e))
  zero_there (struct fs n) e = there_after raw_tuple (zeros_of fs) (zeros_there fs e)
  zero_there (union no_variants n) e = absurd (cc e)
  zero_there (union (choice x t k vs) n) e = there_after (raw_tagged t) (zero_of k) (zero_there k (first_can x t k vs e))
  zero_there (extension id meta k) e = zero_there k e
  zero_there null_only e = absurd (cc e)
  zero_there (float f n) e = absurd (cc e)
  zero_there (decimal p s n) e = absurd (cc e)
  zero_there (variant n) e = absurd (cc e)
  zero_there k e = refl

  zeros_there : (fs : Fields) → fields_can_be_zero fs ≡ true → is_some (zeros_of fs) ≡ true
  zeros_there no_fields e = refl
  zeros_there (field x k fs) e =
      let parts = and_parts (can_be_zero k) (fields_can_be_zero fs) e in
      both_there (zero_of k) (zeros_of fs) (zero_there k parts.0) (zeros_there fs parts.1)

default_there : (b : Bool) (k : LogicalType) → is_some (zero_of k) ≡ true → is_some (if b then Some raw_null else zero_of k) ≡ true
default_there true k e = refl
default_there false k e = e

pub zeros_exist : ZerosExist
zeros_exist k e = let there = zero_there k e in (there, default_there (is_nullable (nullability_of k)) k there)
