-- Each row of an array is a content of its type.
use Rattle.std.proofs.Common.{◌≡◌, ◌<◌, ◌≤◌, ◌+◌, ◌*◌, ℕ, zero, suc, pos, negsuc, Bool, true, false, cond, List, [], get_or, map, refl, sym, ap, subst, arith}
use Rattle.std.specs.List.{All, AllByRecursion, range_with_len}
use Rattle.std.proofs.lemmas.Nat.{mul-le}
use Rattle.vortex_model.specs.LogicalType.{Nullability, non_nullable, nullable, LogicalType, null_only, boolean_type, integer_type, float, decimal, utf8, binary, list, fixed_list, mapping, struct, union, variant, extension, stored, nullability_of, either_nullable, with_nullability, IsNullable}
use Rattle.vortex_model.specs.Content.{Content, null, boolean, integer, text, byte_string, tuple, tagged, scalar, count}
use Rattle.vortex_model.specs.Valid.{IsContent, AllHold, FieldsHold}
use Rattle.vortex_model.proofs.Contents.{said}
use Rattle.vortex_arrays_view.specs.Views.{value_of}
use Rattle.vortex_arrays_model.specs.Layout.{Strings, texts, byte_strings, Layout, bools, numbers, strings, constant, dictionary, fixed_lists, list_views, records, Valid, required, all_valid, all_null, by_array, Columns, no_columns, column, len_of, array_type_of, type_of_strings, fields_of, nullability_by, content_at, is_valid, row_at, rows_of, pick, span, string_content, number_in, IsCode, IsView, IsInteger, IsString, IsSound, HaveLength}
use Rattle.vortex_arrays_model.proofs.RowsLemmas.{row_at_position, row_count}

-- null where a row has no value
null_by : (v : Valid) (i : ℕ) → is_valid v i ≡ false → IsNullable (nullability_by v)
null_by required i e = absurd (let f : true ≡ false → ⊥ = λ p. cc in f e)
null_by all_valid i e = tt
null_by all_null i e = tt
null_by (by_array a) i e = tt

-- the content of a valid row, and else null
valid_if : (k : LogicalType) (v : Valid) (i : ℕ) (b : Bool) (c : Content) → is_valid v i ≡ b → (IsNullable (nullability_by v) → IsContent k null) → (is_valid v i ≡ true → IsContent k c) → IsContent k (cond b c null)
valid_if k v i true c e n h = h e
valid_if k v i false c e n h = n (null_by v i e)

keep_null : (n m : Nullability) → IsNullable m → IsNullable (either_nullable n m)
keep_null non_nullable m h = h
keep_null nullable m h = tt

-- a content of a type is one of its nullable type
widen : (n : Nullability) (k : LogicalType) (c : Content) → IsContent k c → IsContent (with_nullability (either_nullable n (nullability_of k)) k) c
widen n (extension x m k) c h = widen n k c h
widen n null_only null h = tt
widen n (boolean_type m) null h = keep_null n m h
widen n (integer_type i m) null h = keep_null n m h
widen n (float f m) null h = keep_null n m h
widen n (decimal p s m) null h = keep_null n m h
widen n (utf8 m) null h = keep_null n m h
widen n (binary m) null h = keep_null n m h
widen n (list k m) null h = keep_null n m h
widen n (fixed_list k s m) null h = keep_null n m h
widen n (mapping k v s m) null h = keep_null n m h
widen n (struct fs m) null h = keep_null n m h
widen n (union vs m) null h = keep_null n m h
widen n (variant m) null h = keep_null n m h
widen n (boolean_type m) (boolean b) h = h
widen n (integer_type i m) (integer z) h = h
widen n (utf8 m) (text b) h = h
widen n (binary m) (byte_string b) h = h
widen n (list k m) (tuple cs) h = h
widen n (fixed_list k s m) (tuple cs) h = h
widen n (mapping k v s m) (tuple cs) h = h
widen n (struct fs m) (tuple cs) h = h
widen n (union vs m) (tagged t c) h = h
widen n (variant m) (scalar k c) h = h
widen n k (boolean b) h = absurd h
widen n k (integer z) h = absurd h
widen n k (text b) h = absurd h
widen n k (byte_string b) h = absurd h
widen n k (tuple cs) h = absurd h
widen n k (tagged t c) h = absurd h
widen n k (scalar l c) h = absurd h

null_code : (n l : Nullability) (k : LogicalType) → IsNullable n → IsContent (with_nullability (either_nullable n l) k) null
null_code non_nullable l k h = absurd h
null_code nullable l (extension x m k) h = null_code nullable l k h
null_code nullable l null_only h = tt
null_code nullable l (boolean_type m) h = tt
null_code nullable l (integer_type i m) h = tt
null_code nullable l (float f m) h = tt
null_code nullable l (decimal p s m) h = tt
null_code nullable l (utf8 m) h = tt
null_code nullable l (binary m) h = tt
null_code nullable l (list k m) h = tt
null_code nullable l (fixed_list k s m) h = tt
null_code nullable l (mapping k v s m) h = tt
null_code nullable l (struct fs m) h = tt
null_code nullable l (union vs m) h = tt
null_code nullable l (variant m) h = tt

by_code : (kc kv : LogicalType) (n : ℕ) (f : ℕ → Content) (y : Content) → IsInteger kc → IsCode n y → IsContent kc y → ((j : ℕ) → j < n → IsContent kv (f j)) → IsContent (with_nullability (either_nullable (nullability_of kc) (nullability_of kv)) kv) (pick y f)
by_code (integer_type p m) kv n f null t k v h = null_code m (nullability_of kv) kv v
by_code (integer_type p m) kv n f (integer (pos j)) t k v h = widen m kv (f j) (h j k)
by_code kc kv n f (integer (negsuc j)) t k v h = absurd k
by_code kc kv n f (boolean b) t k v h = absurd k
by_code kc kv n f (text b) t k v h = absurd k
by_code kc kv n f (byte_string b) t k v h = absurd k
by_code kc kv n f (tuple cs) t k v h = absurd k
by_code kc kv n f (tagged u c) t k v h = absurd k
by_code kc kv n f (scalar l c) t k v h = absurd k
by_code kc kv n f y t k v h = absurd t

pub view_within : (n : ℕ) (o z : Content) → IsView n o z → number_in o + number_in z ≤ n
view_within n (integer (pos i)) (integer (pos s)) h = h
view_within n o z h = absurd h

span_holds : (k : LogicalType) (f : ℕ → Content) (i n : ℕ) → ((j : ℕ) → j < i + n → IsContent k (f j)) → AllHold k (span f i n)
span_holds k f i zero h = tt
span_holds k f i (suc n) h = (h i (omega arith), span_holds k f (i + 1) n (λ j l. h j (omega arith)))

pub count-span : (f : ℕ → Content) (i n : ℕ) → count (span f i n) ≡ n
count-span f i zero = refl
count-span f i (suc n) = ap (λ m. suc m) (count-span f (i + 1) n)

string_null : (s : Strings) (n : Nullability) → IsNullable n → IsContent (type_of_strings s n) null
string_null texts n h = h
string_null byte_strings n h = h

string_holds : (s : Strings) (n : Nullability) (bs : List ℕ) → IsString s bs → IsContent (type_of_strings s n) (string_content s bs)
string_holds texts n bs h = h
string_holds byte_strings n bs h = h

mutual
  pub rows_valid : (a : Layout) → IsSound a → (i : ℕ) → i < len_of a → IsContent (array_type_of a) (content_at a i)
  rows_valid (bools bs v) s i l = valid_if (boolean_type (nullability_by v)) v i (is_valid v i) (boolean (get_or bs i false)) refl (λ n. n) (λ t. tt)
  rows_valid (numbers k zs v) s i l = valid_if (integer_type k (nullability_by v)) v i (is_valid v i) (integer (get_or zs i (pos 0))) refl (λ n. n) (λ t. s.0 i (pos 0) l)
  rows_valid (strings k vs bs v) s i l = valid_if (type_of_strings k (nullability_by v)) v i (is_valid v i) (string_content k (value_of (get_or vs i []) bs)) refl (string_null k (nullability_by v)) (λ t. let h = s.0 i l t in string_holds k (nullability_by v) (value_of (get_or vs i []) bs) h.1)
  rows_valid (constant k r n) s i l = said (stored k) r s
  rows_valid (dictionary c v f) s i l = by_code (array_type_of c) (array_type_of v) (len_of v) (λ j. content_at v j) (content_at c i) s.2 (s.3 i l) (rows_valid c s.0 i l) (λ j b. rows_valid v s.1 j b)
  rows_valid (fixed_lists e m n v) s i l = valid_if (fixed_list (array_type_of e) m (nullability_by v)) v i (is_valid v i) (tuple (span (λ j. content_at e j) (i * m) m)) refl (λ h. h)
      (λ t. (count-span (λ j. content_at e j) (i * m) m, span_holds (array_type_of e) (λ j. content_at e j) (i * m) m (λ j b. rows_valid e s.0 j (let w = mul-le (i + 1) m n m (omega arith) (omega arith) in omega (arith, w, s.1)))))
  rows_valid (list_views e o z f v) s i l = valid_if (list (array_type_of e) (nullability_by v)) v i (is_valid v i) (tuple (span (λ j. content_at e j) (number_in (content_at o i)) (number_in (content_at z i)))) refl (λ n. n)
      (λ t. span_holds (array_type_of e) (λ j. content_at e j) (number_in (content_at o i)) (number_in (content_at z i)) (λ j b. rows_valid e s.0 j (let w = view_within (len_of e) (content_at o i) (content_at z i) (s.7 i l) in omega (arith, w))))
  rows_valid (records cs n v) s i l = valid_if (struct (fields_of cs) (nullability_by v)) v i (is_valid v i) (tuple (row_at cs i)) refl (λ m. m) (λ t. row_holds cs n i s.0 l)

  row_holds : (cs : Columns) (n i : ℕ) → HaveLength cs n → i < n → FieldsHold (fields_of cs) (row_at cs i)
  row_holds no_columns n i h l = tt
  row_holds (column x a cs) n i h l = (rows_valid a h.0 i (subst (λ m. i < m) (sym h.1) l), row_holds cs n i h.2 l)

pub rows_are_contents : (a : Layout) → IsSound a → All (IsContent (array_type_of a)) (rows_of a)
rows_are_contents a s = λ i d l. let h : i < len_of a = subst (λ n. i < n) (row_count a) l in subst (IsContent (array_type_of a)) (sym (row_at_position a i d h)) (rows_valid a s i h)

contents_in_order : (P : Content → Type 0) (f : ℕ → Content) (a n : ℕ) → ((j : ℕ) → j < a + n → P (f j)) → AllByRecursion P (map f (range_with_len a n))
contents_in_order P f a zero h = tt
contents_in_order P f a (suc n) h = (h a (omega arith), contents_in_order P f (a + 1) n (λ j l. h j (omega arith)))

-- each row is a content of the type, by the predicate that tables use
pub rows_are_contents_in_order : (a : Layout) → IsSound a → AllByRecursion (IsContent (array_type_of a)) (rows_of a)
rows_are_contents_in_order a s = contents_in_order (IsContent (array_type_of a)) (content_at a) 0 (len_of a) (λ j l. rows_valid a s j (omega arith))
