-- What statistics show about placeholders.
use Rattle.std.proofs.Common.{◌≡◌, refl, sym, ap, subst, ◌∙◌, ℕ, pos, negsuc, Bool, true, false, ◌&&◌, IsTrue, Option, Some, None, option_map, if◌then◌else◌}
use Rattle.std.specs.Option.{ForSome, option_map_or}
use Rattle.std.specs.Cmp.{second_so}
use Rattle.vortex_model.specs.LogicalType.{LogicalType, null_only, boolean_type, integer_type, float, decimal, utf8, binary, list, fixed_list, mapping, struct, union, variant, extension, u8, u16, u32, u64, i8, i16, i32, i64, f64, nullable, with_nullability, eq_int_kind}
use Rattle.vortex_model.specs.Content.{Content, integer, Raw, raw_null, raw_boolean, raw_number, raw_text, raw_byte_string, raw_tuple, raw_tagged, raw_scalar, content_of}
use Rattle.vortex_model_table.specs.Statistics.{Precision, exact, inexact, absent, shown, shown_number, shown_size}
use Rattle.vortex_model_table.specs.Typing.{type_of_sum, type_of_bound, bounds_record, count_type, is_float}
use Rattle.vortex_model.specs.Valid.{valid, in_range}
use Rattle.vortex_scalar_convert.specs.Reading.{reads_number}
use Rattle.vortex_scalar_ops.proofs.Nullable.{nullable_has, null_is_there}
use Rattle.vortex_scalar_core.specs.Scalar.{scalar_type}
use Rattle.vortex_scalar_core.specs.declared.scalar.Scalar.{Scalar}
use Rattle.vortex_stats_bound.specs.Precision.{precision_map, known_value}
use Rattle.vortex_stats_bound.specs.Typed.{AreOfType}
use Rattle.vortex_stats_expr.specs.declared.stat.Stat.{Stat}
use Rattle.vortex_stats_expr.specs.declared.stat.Stat.TheVariants as stat
use Rattle.vortex_stats_expr.specs.Stats.{number_type, bound_type, stat_type}
use Rattle.vortex_stats_set.specs.Said.{said_count, said_number}
use Rattle.vortex_stats_set.specs.Valid.{is_known_of}
use Rattle.vortex_stats_evaluate.specs.Told.{IsCountOfRows}
use Rattle.vortex_stats_evaluate.specs.Reading.{said, is_read_at}

-- ---- counts

as_count : ℕ → Content
as_count n = integer (pos n)

-- a value that says a count is one
counted_raw : (r : Raw) (n : ℕ) → integer (pos n) ≡ content_of r → exact n ≡ said_count (exact r)
counted_raw (raw_number i (pos m)) n h = let e : n ≡ m = cc h in ap (λ x. exact x) e
counted_raw (raw_number i (negsuc m)) n h = absurd (cc h)
counted_raw raw_null n h = absurd (cc h)
counted_raw (raw_boolean b) n h = absurd (cc h)
counted_raw (raw_text bs) n h = absurd (cc h)
counted_raw (raw_byte_string bs) n h = absurd (cc h)
counted_raw (raw_tuple rs) n h = absurd (cc h)
counted_raw (raw_tagged t r) n h = absurd (cc h)
counted_raw (raw_scalar k r) n h = absurd (cc h)

pub counted : (p : Precision Raw) (q : Precision ℕ) → precision_map (λ n. integer (pos n)) q ≡ said p →
    q ≡ said_count p
counted absent absent h = refl
counted absent (exact n) h = absurd (cc h)
counted absent (inexact n) h = absurd (cc h)
counted (exact r) (exact n) h = counted_raw r n (exact_one h)
  where
    exact_one : {c d : Content} → exact c ≡ exact d → c ≡ d
    exact_one e = cc e
counted (exact r) (inexact n) h = absurd (cc h)
counted (exact r) absent h = absurd (cc h)
counted (inexact r) (inexact n) h = loosened_count r (counted_raw r n (inexact_one h))
  where
    inexact_one : {c d : Content} → inexact c ≡ inexact d → c ≡ d
    inexact_one e = cc e

    loosened_count : (r : Raw) → exact n ≡ said_count (exact r) → inexact n ≡ said_count (inexact r)
    loosened_count (raw_number i (pos m)) e = let f : n ≡ m = cc e in ap (λ x. inexact x) f
    loosened_count (raw_number i (negsuc m)) e = absurd (cc e)
    loosened_count raw_null e = absurd (cc e)
    loosened_count (raw_boolean b) e = absurd (cc e)
    loosened_count (raw_text bs) e = absurd (cc e)
    loosened_count (raw_byte_string bs) e = absurd (cc e)
    loosened_count (raw_tuple rs) e = absurd (cc e)
    loosened_count (raw_tagged t r) e = absurd (cc e)
    loosened_count (raw_scalar k r) e = absurd (cc e)
counted (inexact r) (exact n) h = absurd (cc h)
counted (inexact r) absent h = absurd (cc h)

again : (a b : Bool) → ((a && b) && b) ≡ (a && b)
again true true = refl
again true false = refl
again false b = refl

-- each value of the type of a count is read
count_read : (r : Raw) →
    (valid number_type r && reads_number u64 number_type (content_of r)) ≡ valid number_type r
count_read (raw_number i z) = again (eq_int_kind i u64) (in_range u64 z)
count_read raw_null = refl
count_read (raw_boolean b) = refl
count_read (raw_text bs) = refl
count_read (raw_byte_string bs) = refl
count_read (raw_tuple rs) = refl
count_read (raw_tagged t r) = refl
count_read (raw_scalar k r) = refl

nans_read : (b : Bool) (r : Raw) →
    option_map_or (λ l. valid l r && reads_number u64 l (content_of r)) (if b then Some number_type else None) false
    ≡ option_map_or (λ l. valid l r) (if b then Some number_type else None) false
nans_read true r = count_read r
nans_read false r = refl

pub counts_read : (k : LogicalType) (s : Stat) (p : Precision Raw) → IsCountOfRows s →
    is_read_at (reads_number u64) (stat_type s k) p ≡ is_known_of k s p
counts_read k s absent u = refl
counts_read k stat.NullCount (exact r) u = count_read r
counts_read k stat.NullCount (inexact r) u = count_read r
counts_read k stat.NaNCount (exact r) u = nans_read (is_float k) r
counts_read k stat.NaNCount (inexact r) u = nans_read (is_float k) r
counts_read k stat.IsConstant p u = absurd u
counts_read k stat.IsSorted p u = absurd u
counts_read k stat.IsStrictSorted p u = absurd u
counts_read k stat.Max p u = absurd u
counts_read k stat.Min p u = absurd u
counts_read k stat.Sum p u = absurd u
counts_read k stat.UncompressedSizeInBytes p u = absurd u

pub ruleset counts = (counted, counts_read)

-- ---- sums and sizes, which are null or numbers

abbrev is_numeric : Raw → Bool
is_numeric raw_null = true
is_numeric (raw_number i z) = true
is_numeric r = false

abbrev IsNumeric : Option LogicalType → Type 0
IsNumeric None = Unit {0}
IsNumeric (Some (integer_type i n)) = Unit {0}
IsNumeric (Some (float f n)) = Unit {0}
IsNumeric o = ⊥

pub sums_numeric : (k : LogicalType) → IsNumeric (type_of_sum k)
sums_numeric null_only = tt
sums_numeric (boolean_type n) = tt
sums_numeric (integer_type u8 n) = tt
sums_numeric (integer_type u16 n) = tt
sums_numeric (integer_type u32 n) = tt
sums_numeric (integer_type u64 n) = tt
sums_numeric (integer_type i8 n) = tt
sums_numeric (integer_type i16 n) = tt
sums_numeric (integer_type i32 n) = tt
sums_numeric (integer_type i64 n) = tt
sums_numeric (float f n) = tt
sums_numeric (decimal p s n) = tt
sums_numeric (utf8 n) = tt
sums_numeric (binary n) = tt
sums_numeric (list l n) = tt
sums_numeric (fixed_list l m n) = tt
sums_numeric (mapping a b s n) = tt
sums_numeric (struct fs n) = tt
sums_numeric (union vs n) = tt
sums_numeric (variant n) = tt
sums_numeric (extension a b l) = tt

numeric_value : (o : Option LogicalType) (r : Raw) → IsNumeric o → option_map_or (λ l. valid l r) o false ≡ true → is_numeric r ≡ true
numeric_value o raw_null u h = refl
numeric_value o (raw_number i z) u h = refl
numeric_value None r u h = absurd (cc h)
numeric_value (Some (integer_type i n)) (raw_boolean b) u h = absurd (cc h)
numeric_value (Some (integer_type i n)) (raw_text bs) u h = absurd (cc h)
numeric_value (Some (integer_type i n)) (raw_byte_string bs) u h = absurd (cc h)
numeric_value (Some (integer_type i n)) (raw_tuple rs) u h = absurd (cc h)
numeric_value (Some (integer_type i n)) (raw_tagged t r) u h = absurd (cc h)
numeric_value (Some (integer_type i n)) (raw_scalar k r) u h = absurd (cc h)
numeric_value (Some (float f n)) (raw_boolean b) u h = absurd (cc h)
numeric_value (Some (float f n)) (raw_text bs) u h = absurd (cc h)
numeric_value (Some (float f n)) (raw_byte_string bs) u h = absurd (cc h)
numeric_value (Some (float f n)) (raw_tuple rs) u h = absurd (cc h)
numeric_value (Some (float f n)) (raw_tagged t r) u h = absurd (cc h)
numeric_value (Some (float f n)) (raw_scalar k r) u h = absurd (cc h)
numeric_value (Some l) r u h = absurd u

exact_shown : (r : Raw) → is_numeric r ≡ true → content_of r ≡ shown_number (said_number (exact r))
exact_shown raw_null h = refl
exact_shown (raw_number i z) h = refl
exact_shown r h = absurd (cc h)

inexact_shown : (r : Raw) → is_numeric r ≡ true → content_of r ≡ shown_number (said_number (inexact r))
inexact_shown raw_null h = refl
inexact_shown (raw_number i z) h = refl
inexact_shown r h = absurd (cc h)

-- a sum is shown as the number that it says
pub sum_shown : (k : LogicalType) (p : Precision Raw) → is_known_of k stat.Sum p ≡ true → shown (said p) ≡ shown_number (said_number p)
sum_shown k (exact r) h = exact_shown r (numeric_value (type_of_sum k) r (sums_numeric k) h)
sum_shown k (inexact r) h = inexact_shown r (numeric_value (type_of_sum k) r (sums_numeric k) h)
sum_shown k absent h = refl

exact_size : (r : Raw) → valid number_type r ≡ true → content_of r ≡ shown_size (said_count (exact r))
exact_size (raw_number i (pos n)) h = refl
exact_size (raw_number i (negsuc n)) h = absurd (cc (second_so (eq_int_kind i u64) (in_range u64 (negsuc n)) h))
exact_size raw_null h = absurd (cc h)
exact_size (raw_boolean b) h = absurd (cc h)
exact_size (raw_text bs) h = absurd (cc h)
exact_size (raw_byte_string bs) h = absurd (cc h)
exact_size (raw_tuple rs) h = absurd (cc h)
exact_size (raw_tagged t r) h = absurd (cc h)
exact_size (raw_scalar k r) h = absurd (cc h)

inexact_size : (r : Raw) → valid number_type r ≡ true → content_of r ≡ shown_size (said_count (inexact r))
inexact_size (raw_number i (pos n)) h = refl
inexact_size (raw_number i (negsuc n)) h = absurd (cc (second_so (eq_int_kind i u64) (in_range u64 (negsuc n)) h))
inexact_size raw_null h = absurd (cc h)
inexact_size (raw_boolean b) h = absurd (cc h)
inexact_size (raw_text bs) h = absurd (cc h)
inexact_size (raw_byte_string bs) h = absurd (cc h)
inexact_size (raw_tuple rs) h = absurd (cc h)
inexact_size (raw_tagged t r) h = absurd (cc h)
inexact_size (raw_scalar k r) h = absurd (cc h)

pub size_shown : (k : LogicalType) (p : Precision Raw) → is_known_of k stat.UncompressedSizeInBytes p ≡ true → shown (said p) ≡ shown_size (said_count p)
size_shown k (exact r) h = exact_size r h
size_shown k (inexact r) h = inexact_size r h
size_shown k absent h = refl

-- ---- a placeholder's type has the value

abbrev IsOfSome : Option LogicalType → Raw → Type 0
IsOfSome o r = ForSome o (λ k. IsTrue (valid k r))

-- a statistic of these types may be missing, and its value is then null
abbrev IsOrNull : Option LogicalType → Raw → Type 0
IsOrNull o r = ForSome o (λ k. IsTrue (valid (with_nullability nullable k) r))

pub kept_or_null : (k : LogicalType) (r : Raw) → IsTrue (valid k r) → IsTrue (valid (with_nullability nullable k) r)
kept_or_null k r h = nullable_has k r h

pub value_typed : (p : Precision Scalar) (s : Scalar) (l : LogicalType) (r : Raw) → known_value p ≡ Some s → AreOfType l p →
    IsTrue (valid (scalar_type s) r) → IsTrue (valid (with_nullability nullable l) r)
value_typed (exact t) s l r e h v = nullable_has l r (ap (λ k. valid k r) (sym h ∙ ap scalar_type (some_one e)) ∙ v)
  where
    some_one : {a b : Scalar} → Some a ≡ Some b → a ≡ b
    some_one f = cc f
value_typed (inexact t) s l r e h v = nullable_has l r (ap (λ k. valid k r) (sym h ∙ ap scalar_type (some_one e)) ∙ v)
  where
    some_one : {a b : Scalar} → Some a ≡ Some b → a ≡ b
    some_one f = cc f
value_typed absent s l r e h v = absurd (cc e)

pub ruleset nullables = (kept_or_null, null_is_there)

one_type : {k l : LogicalType} → Some k ≡ Some l → k ≡ l
one_type e = cc e

of_one : (k l : LogicalType) (r : Raw) → k ≡ l → IsTrue (valid k r) → IsOfSome (Some l) r
of_one k l r e h m f = subst (λ t. IsTrue (valid t r)) (e ∙ one_type f) h

of_none : (r : Raw) → IsOfSome None r
of_none r m f = absurd (cc f)

pub bound_placeholder : (k : LogicalType) (r : Raw) → IsOrNull (bound_type k) r → IsOfSome (type_of_bound k) r
bound_placeholder (boolean_type n) r h = of_one (with_nullability nullable (boolean_type n)) (with_nullability nullable (boolean_type n)) r refl (h (boolean_type n) refl)
bound_placeholder (integer_type i n) r h = of_one (with_nullability nullable (integer_type i n)) (with_nullability nullable (integer_type i n)) r refl (h (integer_type i n) refl)
bound_placeholder (float f n) r h = of_one (with_nullability nullable (float f n)) (with_nullability nullable (float f n)) r refl (h (float f n) refl)
bound_placeholder (decimal p s n) r h = of_one (with_nullability nullable (decimal p s n)) (with_nullability nullable (decimal p s n)) r refl (h (decimal p s n) refl)
bound_placeholder (utf8 n) r h = of_one (with_nullability nullable (utf8 n)) (with_nullability nullable (utf8 n)) r refl (h (utf8 n) refl)
bound_placeholder (binary n) r h = of_one (with_nullability nullable (binary n)) (with_nullability nullable (binary n)) r refl (h (binary n) refl)
bound_placeholder null_only r h = of_none r
bound_placeholder (list l n) r h = of_none r
bound_placeholder (fixed_list l m n) r h = of_none r
bound_placeholder (mapping a b s n) r h = of_none r
bound_placeholder (struct fs n) r h = of_none r
bound_placeholder (union vs n) r h = of_none r
bound_placeholder (variant n) r h = of_none r
bound_placeholder (extension a b l) r h = of_none r

pub sum_placeholder : (k : LogicalType) (r : Raw) → IsOrNull (type_of_sum k) r → IsOfSome (type_of_sum k) r
sum_placeholder (boolean_type n) r h = of_one (integer_type u64 nullable) (integer_type u64 nullable) r refl (h (integer_type u64 nullable) refl)
sum_placeholder (integer_type u8 n) r h = of_one (integer_type u64 nullable) (integer_type u64 nullable) r refl (h (integer_type u64 nullable) refl)
sum_placeholder (integer_type u16 n) r h = of_one (integer_type u64 nullable) (integer_type u64 nullable) r refl (h (integer_type u64 nullable) refl)
sum_placeholder (integer_type u32 n) r h = of_one (integer_type u64 nullable) (integer_type u64 nullable) r refl (h (integer_type u64 nullable) refl)
sum_placeholder (integer_type u64 n) r h = of_one (integer_type u64 nullable) (integer_type u64 nullable) r refl (h (integer_type u64 nullable) refl)
sum_placeholder (integer_type i8 n) r h = of_one (integer_type i64 nullable) (integer_type i64 nullable) r refl (h (integer_type i64 nullable) refl)
sum_placeholder (integer_type i16 n) r h = of_one (integer_type i64 nullable) (integer_type i64 nullable) r refl (h (integer_type i64 nullable) refl)
sum_placeholder (integer_type i32 n) r h = of_one (integer_type i64 nullable) (integer_type i64 nullable) r refl (h (integer_type i64 nullable) refl)
sum_placeholder (integer_type i64 n) r h = of_one (integer_type i64 nullable) (integer_type i64 nullable) r refl (h (integer_type i64 nullable) refl)
sum_placeholder (float f n) r h = of_one (float f64 nullable) (float f64 nullable) r refl (h (float f64 nullable) refl)
sum_placeholder null_only r h = of_none r
sum_placeholder (decimal p s n) r h = of_none r
sum_placeholder (utf8 n) r h = of_none r
sum_placeholder (binary n) r h = of_none r
sum_placeholder (list l n) r h = of_none r
sum_placeholder (fixed_list l m n) r h = of_none r
sum_placeholder (mapping a b s n) r h = of_none r
sum_placeholder (struct fs n) r h = of_none r
sum_placeholder (union vs n) r h = of_none r
sum_placeholder (variant n) r h = of_none r
sum_placeholder (extension a b l) r h = of_none r

pub size_placeholder : (r : Raw) → IsOrNull (Some number_type) r → IsOfSome (Some count_type) r
size_placeholder r h = of_one count_type count_type r refl (h number_type refl)

pub one_placeholder : (k : LogicalType) (r : Raw) → IsTrue (valid k r) → IsOfSome (Some k) r
one_placeholder k r h = of_one k k r refl h

pub float_placeholder : (b : Bool) (k : LogicalType) (r : Raw) → IsTrue (valid k r) → IsOfSome (if b then Some k else None) r
float_placeholder true k r h = of_one k k r refl h
float_placeholder false k r h = of_none r

pub null_placeholder : (k : LogicalType) → IsOfSome (option_map bounds_record (type_of_bound k)) raw_null
null_placeholder k = by_type (type_of_bound k)
  where
    by_type : (o : Option LogicalType) → IsOfSome (option_map bounds_record o) raw_null
    by_type None = of_none raw_null
    by_type (Some l) = of_one (bounds_record l) (bounds_record l) raw_null refl refl

pub ruleset told = (sum_shown, size_shown, bound_placeholder, sum_placeholder, size_placeholder, one_placeholder, float_placeholder, null_placeholder)
