-- The code of a kind, by which a proof distinguishes two kinds.
use Rattle.std.specs.Prelude.{◌≡◌, ℕ, List}
use Rattle.std.specs.Coded.{Coded, coded_ℕ, coded_ℤ, coded_bool, coded_list}
use base.Stored.{Gv, gnil, gnum, gcons}
use Rattle.std.proofs.Common.{ap, arith}
use Rattle.vortex_model.specs.LogicalType.{Nullability, non_nullable, nullable, IntKind, u8, u16, u32, u64, i8, i16, i32, i64, FloatKind, f16, f32, f64, LogicalType, null_only, boolean_type, integer_type, float, decimal, utf8, binary, list, fixed_list, mapping, struct, union, variant, extension, Fields, no_fields, field, Variants, no_variants, choice}

abbrev pub head : Gv → Gv
head (gcons a b) = a
head g = g

abbrev pub tail : Gv → Gv
tail (gcons a b) = b
tail g = g

-- the number of a tree's constructor
abbrev pub tag : Gv → ℕ
tag (gcons (gnum n) g) = n
tag (gnum n) = n
tag g = 0

abbrev pub coded_bytes : Coded (List ℕ)
coded_bytes = coded_list coded_ℕ

abbrev pub nullability_code : Nullability → Gv
nullability_code non_nullable = gnum 0
nullability_code nullable = gnum 1

pub nullability_inj : (n m : Nullability) → nullability_code n ≡ nullability_code m → n ≡ m
nullability_inj non_nullable non_nullable p = λ i. non_nullable
nullability_inj nullable nullable p = λ i. nullable
nullability_inj n m p = cc

abbrev pub int_kind_code : IntKind → Gv
int_kind_code u8 = gnum 0
int_kind_code u16 = gnum 1
int_kind_code u32 = gnum 2
int_kind_code u64 = gnum 3
int_kind_code i8 = gnum 4
int_kind_code i16 = gnum 5
int_kind_code i32 = gnum 6
int_kind_code i64 = gnum 7

pub int_kind_inj : (i j : IntKind) → int_kind_code i ≡ int_kind_code j → i ≡ j
int_kind_inj u8 u8 p = λ i. u8
int_kind_inj u16 u16 p = λ i. u16
int_kind_inj u32 u32 p = λ i. u32
int_kind_inj u64 u64 p = λ i. u64
int_kind_inj i8 i8 p = λ i. i8
int_kind_inj i16 i16 p = λ i. i16
int_kind_inj i32 i32 p = λ i. i32
int_kind_inj i64 i64 p = λ i. i64
int_kind_inj i j p = cc

abbrev pub float_kind_code : FloatKind → Gv
float_kind_code f16 = gnum 0
float_kind_code f32 = gnum 1
float_kind_code f64 = gnum 2

pub float_kind_inj : (f g : FloatKind) → float_kind_code f ≡ float_kind_code g → f ≡ g
float_kind_inj f16 f16 p = λ i. f16
float_kind_inj f32 f32 p = λ i. f32
float_kind_inj f64 f64 p = λ i. f64
float_kind_inj f g p = cc

abbrev mutual
  pub type_code : LogicalType → Gv
  type_code null_only = gnum 0
  type_code (boolean_type n) = gcons (gnum 1) (nullability_code n)
  type_code (integer_type i n) = gcons (gnum 2) (gcons (int_kind_code i) (nullability_code n))
  type_code (float f n) = gcons (gnum 3) (gcons (float_kind_code f) (nullability_code n))
  type_code (decimal p s n) =
      gcons (gnum 4) (gcons (gnum p) (gcons (coded_ℤ.code s) (nullability_code n)))
  type_code (utf8 n) = gcons (gnum 5) (nullability_code n)
  type_code (binary n) = gcons (gnum 6) (nullability_code n)
  type_code (list k n) = gcons (gnum 7) (gcons (type_code k) (nullability_code n))
  type_code (fixed_list k m n) =
      gcons (gnum 8) (gcons (type_code k) (gcons (gnum m) (nullability_code n)))
  type_code (mapping k v s n) =
      gcons (gnum 9) (gcons (type_code k)
      (gcons (type_code v) (gcons (coded_bool.code s) (nullability_code n))))
  type_code (struct fs n) = gcons (gnum 10) (gcons (fields_code fs) (nullability_code n))
  type_code (union vs n) = gcons (gnum 11) (gcons (variants_code vs) (nullability_code n))
  type_code (variant n) = gcons (gnum 12) (nullability_code n)
  type_code (extension x m k) =
      gcons (gnum 13) (gcons (coded_bytes.code x) (gcons (coded_bytes.code m) (type_code k)))

  pub fields_code : Fields → Gv
  fields_code no_fields = gnil
  fields_code (field x k fs) = gcons (coded_bytes.code x) (gcons (type_code k) (fields_code fs))

  pub variants_code : Variants → Gv
  variants_code no_variants = gnil
  variants_code (choice x t k vs) =
      gcons (coded_bytes.code x) (gcons (coded_ℤ.code t) (gcons (type_code k) (variants_code vs)))

mutual
  pub type_inj : (k l : LogicalType) → type_code k ≡ type_code l → k ≡ l
  type_inj null_only null_only p = λ i. null_only
  type_inj (boolean_type n) (boolean_type m) p = ap boolean_type (nullability_inj n m (ap tail p))
  type_inj (integer_type i n) (integer_type j m) p =
      λ x. integer_type (int_kind_inj i j (ap (λ g. head (tail g)) p) x)
      (nullability_inj n m (ap (λ g. tail (tail g)) p) x)
  type_inj (float f n) (float g m) p =
      λ x. float (float_kind_inj f g (ap (λ g. head (tail g)) p) x)
      (nullability_inj n m (ap (λ g. tail (tail g)) p) x)
  type_inj (decimal a s n) (decimal b t m) p =
      λ x. decimal (coded_ℕ.inj a b (ap (λ g. head (tail g)) p) x)
      (coded_ℤ.inj s t (ap (λ g. head (tail (tail g))) p) x)
      (nullability_inj n m (ap (λ g. tail (tail (tail g))) p) x)
  type_inj (utf8 n) (utf8 m) p = ap utf8 (nullability_inj n m (ap tail p))
  type_inj (binary n) (binary m) p = ap binary (nullability_inj n m (ap tail p))
  type_inj (list k n) (list l m) p =
      λ x. list (type_inj k l (ap (λ g. head (tail g)) p) x)
      (nullability_inj n m (ap (λ g. tail (tail g)) p) x)
  type_inj (fixed_list k a n) (fixed_list l b m) p =
      λ x. fixed_list (type_inj k l (ap (λ g. head (tail g)) p) x)
      (coded_ℕ.inj a b (ap (λ g. head (tail (tail g))) p) x)
      (nullability_inj n m (ap (λ g. tail (tail (tail g))) p) x)
  type_inj (mapping k v s n) (mapping l w t m) p =
      λ x. mapping (type_inj k l (ap (λ g. head (tail g)) p) x)
      (type_inj v w (ap (λ g. head (tail (tail g))) p) x)
      (coded_bool.inj s t (ap (λ g. head (tail (tail (tail g)))) p) x)
      (nullability_inj n m (ap (λ g. tail (tail (tail (tail g)))) p) x)
  type_inj (struct fs n) (struct gs m) p =
      λ x. struct (fields_inj fs gs (ap (λ g. head (tail g)) p) x)
      (nullability_inj n m (ap (λ g. tail (tail g)) p) x)
  type_inj (union vs n) (union ws m) p =
      λ x. union (variants_inj vs ws (ap (λ g. head (tail g)) p) x)
      (nullability_inj n m (ap (λ g. tail (tail g)) p) x)
  type_inj (variant n) (variant m) p = ap variant (nullability_inj n m (ap tail p))
  type_inj (extension x a k) (extension y b l) p =
      λ i. extension (coded_bytes.inj x y (ap (λ g. head (tail g)) p) i)
      (coded_bytes.inj a b (ap (λ g. head (tail (tail g))) p) i)
      (type_inj k l (ap (λ g. tail (tail (tail g))) p) i)
  type_inj k l p = absurd (omega (arith, ap tag p))

  pub fields_inj : (fs gs : Fields) → fields_code fs ≡ fields_code gs → fs ≡ gs
  fields_inj no_fields no_fields p = λ i. no_fields
  fields_inj (field x k fs) (field y l gs) p =
      λ i. field (coded_bytes.inj x y (ap head p) i) (type_inj k l (ap (λ g. head (tail g)) p) i)
      (fields_inj fs gs (ap (λ g. tail (tail g)) p) i)
  fields_inj fs gs p = cc

  pub variants_inj : (vs ws : Variants) → variants_code vs ≡ variants_code ws → vs ≡ ws
  variants_inj no_variants no_variants p = λ i. no_variants
  variants_inj (choice x t k vs) (choice y u l ws) p =
      λ i. choice (coded_bytes.inj x y (ap head p) i)
      (coded_ℤ.inj t u (ap (λ g. head (tail g)) p) i)
      (type_inj k l (ap (λ g. head (tail (tail g))) p) i)
      (variants_inj vs ws (ap (λ g. tail (tail (tail g))) p) i)
  variants_inj vs ws p = cc
