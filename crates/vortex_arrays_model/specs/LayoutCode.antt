-- Codes of types, raw values and layouts, by which a proof shows that two of them differ.
use Rattle.std.specs.Prelude.{◌≡◌, ℕ, List, Bool, refl}
use Rattle.std.proofs.Common.{ap}
use Rattle.std.specs.Coded.{Coded, coded_ℕ, coded_ℤ, coded_bool, coded_list}
use base.Stored.{Gv, gnil, gnum, gcons}
use Rattle.vortex_model.specs.LogicalType.{Nullability, non_nullable, nullable, IntKind, u8, u16, u32, u64, i8, i16, i32, i64, FloatKind, f16, f32, f64, LogicalType, null_only, boolean_type, integer_type, float, decimal, utf8, binary, list, fixed_list, mapping, struct, union, variant, extension, Fields, no_fields, field, Variants, no_variants, choice, int_kind_number, float_kind_number}
use Rattle.vortex_model.specs.Content.{Raw, raw_null, raw_boolean, raw_number, raw_text, raw_byte_string, raw_tuple, raw_tagged, raw_scalar, Raws, no_raws, raw_first}
use Rattle.vortex_arrays_model.specs.Layout.{Strings, texts, byte_strings, Layout, bools, numbers, strings, constant, dictionary, fixed_lists, list_views, records, Valid, required, all_valid, all_null, by_array, Columns, no_columns, column}

abbrev head : Gv → Gv
head (gcons a b) = a
head g = g

abbrev tail : Gv → Gv
tail (gcons a b) = b
tail g = g

abbrev number : Gv → ℕ
number (gnum n) = n
number g = 0

-- the parts of a code that begins with a number
abbrev one : Gv → Gv
one g = head (tail g)

abbrev two : Gv → Gv
two g = head (tail (tail g))

abbrev three : Gv → Gv
three g = head (tail (tail (tail g)))

abbrev four : Gv → Gv
four g = head (tail (tail (tail (tail g))))

abbrev five : Gv → Gv
five g = head (tail (tail (tail (tail (tail g)))))

abbrev flag_gv : Bool → Gv
flag_gv b = coded_bool.code b

abbrev bytes_gv : List ℕ → Gv
bytes_gv bs = (coded_list coded_ℕ).code bs

bytes_inj : (xs ys : List ℕ) → bytes_gv xs ≡ bytes_gv ys → xs ≡ ys
bytes_inj xs ys p = (coded_list coded_ℕ).inj xs ys p

abbrev nullability_gv : Nullability → Gv
nullability_gv non_nullable = gnum 0
nullability_gv nullable = gnum 1

nullability_inj : (n m : Nullability) → nullability_gv n ≡ nullability_gv m → n ≡ m
nullability_inj non_nullable non_nullable p = refl
nullability_inj nullable nullable p = refl
nullability_inj n m p = cc

abbrev int_kind_gv : IntKind → Gv
int_kind_gv k = gnum (int_kind_number k)

int_kind_inj : (k l : IntKind) → int_kind_gv k ≡ int_kind_gv l → k ≡ l
int_kind_inj u8 u8 p = refl
int_kind_inj u16 u16 p = refl
int_kind_inj u32 u32 p = refl
int_kind_inj u64 u64 p = refl
int_kind_inj i8 i8 p = refl
int_kind_inj i16 i16 p = refl
int_kind_inj i32 i32 p = refl
int_kind_inj i64 i64 p = refl
int_kind_inj k l p = cc

abbrev float_kind_gv : FloatKind → Gv
float_kind_gv k = gnum (float_kind_number k)

float_kind_inj : (k l : FloatKind) → float_kind_gv k ≡ float_kind_gv l → k ≡ l
float_kind_inj f16 f16 p = refl
float_kind_inj f32 f32 p = refl
float_kind_inj f64 f64 p = refl
float_kind_inj k l p = cc

abbrev mutual
  pub type_gv : LogicalType → Gv
  type_gv null_only = gnil
  type_gv (boolean_type n) = gcons (gnum 1) (gcons (nullability_gv n) gnil)
  type_gv (integer_type k n) =
      gcons (gnum 2) (gcons (int_kind_gv k) (gcons (nullability_gv n) gnil))
  type_gv (float k n) = gcons (gnum 3) (gcons (float_kind_gv k) (gcons (nullability_gv n) gnil))
  type_gv (decimal p s n) =
      gcons (gnum 4) (gcons (gnum p) (gcons (coded_ℤ.code s) (gcons (nullability_gv n) gnil)))
  type_gv (utf8 n) = gcons (gnum 5) (gcons (nullability_gv n) gnil)
  type_gv (binary n) = gcons (gnum 6) (gcons (nullability_gv n) gnil)
  type_gv (list k n) = gcons (gnum 7) (gcons (type_gv k) (gcons (nullability_gv n) gnil))
  type_gv (fixed_list k s n) =
      gcons (gnum 8) (gcons (type_gv k) (gcons (gnum s) (gcons (nullability_gv n) gnil)))
  type_gv (mapping k v s n) =
      gcons (gnum 9) (gcons (type_gv k)
      (gcons (type_gv v) (gcons (flag_gv s) (gcons (nullability_gv n) gnil))))
  type_gv (struct fs n) = gcons (gnum 10) (gcons (fields_gv fs) (gcons (nullability_gv n) gnil))
  type_gv (union vs n) = gcons (gnum 11) (gcons (variants_gv vs) (gcons (nullability_gv n) gnil))
  type_gv (variant n) = gcons (gnum 12) (gcons (nullability_gv n) gnil)
  type_gv (extension x m k) =
      gcons (gnum 13) (gcons (bytes_gv x) (gcons (bytes_gv m) (gcons (type_gv k) gnil)))

  pub fields_gv : Fields → Gv
  fields_gv no_fields = gnil
  fields_gv (field x k fs) = gcons (bytes_gv x) (gcons (type_gv k) (fields_gv fs))

  pub variants_gv : Variants → Gv
  variants_gv no_variants = gnil
  variants_gv (choice x t k vs) =
      gcons (bytes_gv x) (gcons (coded_ℤ.code t) (gcons (type_gv k) (variants_gv vs)))

mutual
  pub type_inj : (k l : LogicalType) → type_gv k ≡ type_gv l → k ≡ l
  type_inj null_only null_only p = refl
  type_inj (boolean_type n) (boolean_type m) p = ap boolean_type (nullability_inj n m (ap one p))
  type_inj (integer_type k n) (integer_type l m) p =
      λ i. integer_type (int_kind_inj k l (ap one p) i) (nullability_inj n m (ap two p) i)
  type_inj (float k n) (float l m) p =
      λ i. float (float_kind_inj k l (ap one p) i) (nullability_inj n m (ap two p) i)
  type_inj (decimal a s n) (decimal b t m) p =
      λ i. decimal (ap (λ g. number (one g)) p i) (coded_ℤ.inj s t (ap two p) i)
      (nullability_inj n m (ap three p) i)
  type_inj (utf8 n) (utf8 m) p = ap utf8 (nullability_inj n m (ap one p))
  type_inj (binary n) (binary m) p = ap binary (nullability_inj n m (ap one p))
  type_inj (list k n) (list l m) p =
      λ i. list (type_inj k l (ap one p) i) (nullability_inj n m (ap two p) i)
  type_inj (fixed_list k s n) (fixed_list l t m) p =
      λ i. fixed_list (type_inj k l (ap one p) i) (ap (λ g. number (two g)) p i)
      (nullability_inj n m (ap three p) i)
  type_inj (mapping k v s n) (mapping l w t m) p =
      λ i. mapping (type_inj k l (ap one p) i) (type_inj v w (ap two p) i)
      (coded_bool.inj s t (ap three p) i) (nullability_inj n m (ap four p) i)
  type_inj (struct fs n) (struct gs m) p =
      λ i. struct (fields_inj fs gs (ap one p) i) (nullability_inj n m (ap two p) i)
  type_inj (union vs n) (union ws m) p =
      λ i. union (variants_inj vs ws (ap one p) i) (nullability_inj n m (ap two p) i)
  type_inj (variant n) (variant m) p = ap variant (nullability_inj n m (ap one p))
  type_inj (extension x a k) (extension y b l) p =
      λ i. extension (bytes_inj x y (ap one p) i) (bytes_inj a b (ap two p) i)
      (type_inj k l (ap three p) i)
  type_inj k l p = cc

  pub fields_inj : (fs gs : Fields) → fields_gv fs ≡ fields_gv gs → fs ≡ gs
  fields_inj no_fields no_fields p = refl
  fields_inj (field x k fs) (field y l gs) p =
      λ i. field (bytes_inj x y (ap head p) i) (type_inj k l (ap one p) i)
      (fields_inj fs gs (ap (λ g. tail (tail g)) p) i)
  fields_inj fs gs p = cc

  pub variants_inj : (vs ws : Variants) → variants_gv vs ≡ variants_gv ws → vs ≡ ws
  variants_inj no_variants no_variants p = refl
  variants_inj (choice x t k vs) (choice y u l ws) p =
      λ i. choice (bytes_inj x y (ap head p) i) (coded_ℤ.inj t u (ap one p) i)
      (type_inj k l (ap two p) i) (variants_inj vs ws (ap (λ g. tail (tail (tail g))) p) i)
  variants_inj vs ws p = cc

abbrev mutual
  pub raw_gv : Raw → Gv
  raw_gv raw_null = gnil
  raw_gv (raw_boolean b) = gcons (gnum 1) (gcons (flag_gv b) gnil)
  raw_gv (raw_number k z) = gcons (gnum 2) (gcons (int_kind_gv k) (gcons (coded_ℤ.code z) gnil))
  raw_gv (raw_text bs) = gcons (gnum 3) (gcons (bytes_gv bs) gnil)
  raw_gv (raw_byte_string bs) = gcons (gnum 4) (gcons (bytes_gv bs) gnil)
  raw_gv (raw_tuple rs) = gcons (gnum 5) (gcons (raws_gv rs) gnil)
  raw_gv (raw_tagged t r) = gcons (gnum 6) (gcons (coded_ℤ.code t) (gcons (raw_gv r) gnil))
  raw_gv (raw_scalar k r) = gcons (gnum 7) (gcons (type_gv k) (gcons (raw_gv r) gnil))

  pub raws_gv : Raws → Gv
  raws_gv no_raws = gnil
  raws_gv (raw_first r rs) = gcons (raw_gv r) (raws_gv rs)

mutual
  pub raw_inj : (r s : Raw) → raw_gv r ≡ raw_gv s → r ≡ s
  raw_inj raw_null raw_null p = refl
  raw_inj (raw_boolean b) (raw_boolean c) p = ap raw_boolean (coded_bool.inj b c (ap one p))
  raw_inj (raw_number k y) (raw_number l z) p =
      λ i. raw_number (int_kind_inj k l (ap one p) i) (coded_ℤ.inj y z (ap two p) i)
  raw_inj (raw_text xs) (raw_text ys) p = ap raw_text (bytes_inj xs ys (ap one p))
  raw_inj (raw_byte_string xs) (raw_byte_string ys) p =
      ap raw_byte_string (bytes_inj xs ys (ap one p))
  raw_inj (raw_tuple rs) (raw_tuple ss) p = ap raw_tuple (raws_inj rs ss (ap one p))
  raw_inj (raw_tagged t r) (raw_tagged u s) p =
      λ i. raw_tagged (coded_ℤ.inj t u (ap one p) i) (raw_inj r s (ap two p) i)
  raw_inj (raw_scalar k r) (raw_scalar l s) p =
      λ i. raw_scalar (type_inj k l (ap one p) i) (raw_inj r s (ap two p) i)
  raw_inj r s p = cc

  pub raws_inj : (rs ss : Raws) → raws_gv rs ≡ raws_gv ss → rs ≡ ss
  raws_inj no_raws no_raws p = refl
  raws_inj (raw_first r rs) (raw_first s ss) p =
      λ i. raw_first (raw_inj r s (ap head p) i) (raws_inj rs ss (ap tail p) i)
  raws_inj rs ss p = cc

abbrev strings_gv : Strings → Gv
strings_gv texts = gnum 0
strings_gv byte_strings = gnum 1

strings_inj : (s t : Strings) → strings_gv s ≡ strings_gv t → s ≡ t
strings_inj texts texts p = refl
strings_inj byte_strings byte_strings p = refl
strings_inj s t p = cc

abbrev coded_lists : Coded (List (List ℕ))
coded_lists = coded_list (coded_list coded_ℕ)

abbrev mutual
  pub layout_gv : Layout → Gv
  layout_gv (bools bs v) =
      gcons (gnum 0) (gcons ((coded_list coded_bool).code bs) (gcons (valid_gv v) gnil))
  layout_gv (numbers k zs v) =
      gcons (gnum 1) (gcons (int_kind_gv k)
      (gcons ((coded_list coded_ℤ).code zs) (gcons (valid_gv v) gnil)))
  layout_gv (strings s vs bs v) =
      gcons (gnum 2) (gcons (strings_gv s)
      (gcons (coded_lists.code vs) (gcons (coded_lists.code bs) (gcons (valid_gv v) gnil))))
  layout_gv (constant k r n) =
      gcons (gnum 3) (gcons (type_gv k) (gcons (raw_gv r) (gcons (gnum n) gnil)))
  layout_gv (dictionary c v f) =
      gcons (gnum 4) (gcons (layout_gv c) (gcons (layout_gv v) (gcons (flag_gv f) gnil)))
  layout_gv (fixed_lists e s n v) =
      gcons (gnum 5) (gcons (layout_gv e)
      (gcons (gnum s) (gcons (gnum n) (gcons (valid_gv v) gnil))))
  layout_gv (list_views e o s f v) =
      gcons (gnum 6) (gcons (layout_gv e)
      (gcons (layout_gv o) (gcons (layout_gv s) (gcons (flag_gv f) (gcons (valid_gv v) gnil)))))
  layout_gv (records cs n v) =
      gcons (gnum 7) (gcons (columns_gv cs) (gcons (gnum n) (gcons (valid_gv v) gnil)))

  pub valid_gv : Valid → Gv
  valid_gv required = gnum 0
  valid_gv all_valid = gnum 1
  valid_gv all_null = gnum 2
  valid_gv (by_array a) = gcons gnil (layout_gv a)

  pub columns_gv : Columns → Gv
  columns_gv no_columns = gnil
  columns_gv (column x a cs) = gcons (bytes_gv x) (gcons (layout_gv a) (columns_gv cs))

mutual
  pub layout_inj : (a b : Layout) → layout_gv a ≡ layout_gv b → a ≡ b
  layout_inj (bools xs v) (bools ys w) p =
      λ i. bools ((coded_list coded_bool).inj xs ys (ap one p) i) (valid_inj v w (ap two p) i)
  layout_inj (numbers k xs v) (numbers l ys w) p =
      λ i. numbers (int_kind_inj k l (ap one p) i) ((coded_list coded_ℤ).inj xs ys (ap two p) i)
      (valid_inj v w (ap three p) i)
  layout_inj (strings s xs cs v) (strings t ys ds w) p =
      λ i. strings (strings_inj s t (ap one p) i) (coded_lists.inj xs ys (ap two p) i)
      (coded_lists.inj cs ds (ap three p) i) (valid_inj v w (ap four p) i)
  layout_inj (constant k r n) (constant l s m) p =
      λ i. constant (type_inj k l (ap one p) i) (raw_inj r s (ap two p) i)
      (ap (λ g. number (three g)) p i)
  layout_inj (dictionary c v f) (dictionary d w g) p =
      λ i. dictionary (layout_inj c d (ap one p) i) (layout_inj v w (ap two p) i)
      (coded_bool.inj f g (ap three p) i)
  layout_inj (fixed_lists e s n v) (fixed_lists f t m w) p =
      λ i. fixed_lists (layout_inj e f (ap one p) i) (ap (λ g. number (two g)) p i)
      (ap (λ g. number (three g)) p i) (valid_inj v w (ap four p) i)
  layout_inj (list_views e o s f v) (list_views a b c g w) p =
      λ i. list_views (layout_inj e a (ap one p) i) (layout_inj o b (ap two p) i)
      (layout_inj s c (ap three p) i) (coded_bool.inj f g (ap four p) i)
      (valid_inj v w (ap five p) i)
  layout_inj (records cs n v) (records ds m w) p =
      λ i. records (columns_inj cs ds (ap one p) i) (ap (λ g. number (two g)) p i)
      (valid_inj v w (ap three p) i)
  layout_inj a b p = cc

  pub valid_inj : (v w : Valid) → valid_gv v ≡ valid_gv w → v ≡ w
  valid_inj required required p = refl
  valid_inj all_valid all_valid p = refl
  valid_inj all_null all_null p = refl
  valid_inj (by_array a) (by_array b) p = ap by_array (layout_inj a b (ap tail p))
  valid_inj v w p = cc

  pub columns_inj : (cs ds : Columns) → columns_gv cs ≡ columns_gv ds → cs ≡ ds
  columns_inj no_columns no_columns p = refl
  columns_inj (column x a cs) (column y b ds) p =
      λ i. column (bytes_inj x y (ap head p) i) (layout_inj a b (ap one p) i)
      (columns_inj cs ds (ap (λ g. tail (tail g)) p) i)
  columns_inj cs ds p = cc

abbrev pub type_code : Coded LogicalType
type_code = record { code = type_gv; inj = type_inj }

abbrev pub raw_code : Coded Raw
raw_code = record { code = raw_gv; inj = raw_inj }

abbrev pub layout_code : Coded Layout
layout_code = record { code = layout_gv; inj = layout_inj }
