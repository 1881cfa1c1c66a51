-- The raw value at an index has the content there, and is one of the array's type.
use Rattle.std.proofs.Common.{◌≡◌, ◌<◌, ◌≤◌, ◌+◌, ◌*◌, ℕ, zero, suc, pos, Bool, true, false, cond, List, [], ◌∷◌, get_or, map, refl, sym, ap, subst, ◌∙◌, arith}
use Rattle.std.specs.List.{range_with_len, All}
use Rattle.std.proofs.lemmas.Nat.{mul-le}
use Rattle.vortex_model.specs.LogicalType.{Nullability, LogicalType, boolean_type, integer_type, utf8, binary, list, fixed_list, mapping, struct, union, variant, extension, nullability_of, either_nullable, with_nullability}
use Rattle.vortex_model.specs.Content.{Content, null, integer, tuple, first, content_of, contents_of, Raw, raw_null, raw_boolean, raw_number, raw_text, raw_byte_string, raw_tuple, raw_tagged, raw_scalar, raw_first, raw_count}
use Rattle.vortex_model.specs.Valid.{IsValid, IsContent, AllHave, FieldsHave}
use Rattle.vortex_arrays_view.specs.Views.{value_of}
use Rattle.vortex_scalar_value.specs.View.{raws_from}
use Rattle.vortex_arrays_model.specs.Layout.{Strings, texts, byte_strings, Layout, bools, numbers, strings, constant, dictionary, fixed_lists, list_views, records, Columns, no_columns, column, size_of, columns_size, len_of, array_type_of, type_of_strings, fields_of, nullability_by, content_at, is_valid, row_at, pick, span, string_content, number_in, IsCode, IsString, IsSound, HaveLength}
use Rattle.vortex_arrays_model.specs.Parts.{columns_of}
use Rattle.vortex_arrays_model.proofs.PicksLemmas.{each_length, field_size}
use Rattle.vortex_arrays_model.proofs.ValidRows.{rows_valid, view_within}
use Rattle.vortex_scalar_value.proofs.Views.{one_level}
use Rattle.vortex_arrays_model.proofs.CanonicalLemmas.{offsets_are_integers}
use Rattle.vortex_arrays_core.specs.RawRows.{raw_pick, raw_span, raw_string, raw_row, raw_fields}

says_if : (b : Bool) (r : Raw) → content_of (cond b r raw_null) ≡ cond b (content_of r) null
says_if true r = refl
says_if false r = refl

says_string : (s : Strings) (bs : List ℕ) → content_of (raw_string s bs) ≡ string_content s bs
says_string texts bs = refl
says_string byte_strings bs = refl

says_pick : (c : Content) (f : ℕ → Raw) (g : ℕ → Content) → ((j : ℕ) → content_of (f j) ≡ g j) → content_of (raw_pick c f) ≡ pick c g
says_pick null f g h = refl
says_pick c f g h = h (number_in c)

says_span : (f : ℕ → Raw) (g : ℕ → Content) (i n : ℕ) → ((j : ℕ) → content_of (f j) ≡ g j) → contents_of (raw_span f i n) ≡ span g i n
says_span f g i zero h = refl
says_span f g i (suc n) h = λ t. first (h i t) (says_span f g (i + 1) n h t)

mutual
  pub says : (a : Layout) (i : ℕ) → content_of (raw_row a i) ≡ content_at a i
  says (bools bs v) i = says_if (is_valid v i) (raw_boolean (get_or bs i false))
  says (numbers k zs v) i = says_if (is_valid v i) (raw_number k (get_or zs i (pos 0)))
  says (strings s vs bs v) i = says_if (is_valid v i) (raw_string s (value_of (get_or vs i []) bs)) ∙ ap (λ c. cond (is_valid v i) c null) (says_string s (value_of (get_or vs i []) bs))
  says (constant k r n) i = refl
  says (dictionary c v f) i = says_pick (content_at c i) (λ j. raw_row v j) (λ j. content_at v j) (says v)
  says (fixed_lists e s n v) i = says_if (is_valid v i) (raw_tuple (raw_span (λ j. raw_row e j) (i * s) s)) ∙ ap (λ cs. cond (is_valid v i) (tuple cs) null) (says_span (λ j. raw_row e j) (λ j. content_at e j) (i * s) s (says e))
  says (list_views e o s f v) i =
      let from : ℕ = number_in (content_at o i) in
      let count : ℕ = number_in (content_at s i) in
      says_if (is_valid v i) (raw_tuple (raw_span (λ j. raw_row e j) from count)) ∙ ap (λ cs. cond (is_valid v i) (tuple cs) null) (says_span (λ j. raw_row e j) (λ j. content_at e j) from count (says e))
  says (records cs n v) i = says_if (is_valid v i) (raw_tuple (raw_fields cs i)) ∙ ap (λ xs. cond (is_valid v i) (tuple xs) null) (fields_say cs i)

  fields_say : (cs : Columns) (i : ℕ) → contents_of (raw_fields cs i) ≡ row_at cs i
  fields_say no_columns i = refl
  fields_say (column x a cs) i = λ t. first (says a i t) (fields_say cs i t)

-- a value or null, each of the type where it is a content of it
valid_if : (k : LogicalType) (b : Bool) (r : Raw) → IsContent k (content_of (cond b r raw_null)) → (b ≡ true → IsValid k r) → IsValid k (cond b r raw_null)
valid_if k true r c h = h refl
valid_if k false r c h = c

string_valid : (s : Strings) (n : Nullability) (bs : List ℕ) → IsString s bs → IsValid (type_of_strings s n) (raw_string s bs)
string_valid texts n bs h = h
string_valid byte_strings n bs h = h

-- a value of a type is one of its nullable type
widen : (n : Nullability) (k : LogicalType) (r : Raw) → IsValid k r → IsContent (with_nullability n k) (content_of r) → IsValid (with_nullability n k) r
widen n (extension x m k) r h c = widen n k r h c
widen n k raw_null h c = c
widen n (boolean_type m) (raw_boolean b) h c = h
widen n (integer_type i m) (raw_number j z) h c = h
widen n (utf8 m) (raw_text b) h c = h
widen n (binary m) (raw_byte_string b) h c = h
widen n (list k m) (raw_tuple rs) h c = h
widen n (fixed_list k s m) (raw_tuple rs) h c = h
widen n (mapping k v s m) (raw_tuple rs) h c = h
widen n (struct fs m) (raw_tuple rs) h c = h
widen n (union vs m) (raw_tagged t r) h c = h
widen n (variant m) (raw_scalar k r) h c = h
widen n k r h c = absurd h

by_code : (m : Nullability) (k : LogicalType) (n : ℕ) (f : ℕ → Raw) (y : Content) → IsCode n y → ((j : ℕ) → j < n → IsValid k (f j)) → IsContent (with_nullability m k) (content_of (raw_pick y f)) → IsValid (with_nullability m k) (raw_pick y f)
by_code m k n f null l h c = c
by_code m k n f (integer (pos j)) l h c = widen m k (f j) (h j l) c
by_code m k n f y l h c = absurd l

span_valid : (k : LogicalType) (f : ℕ → Raw) (i n : ℕ) → ((j : ℕ) → j < i + n → IsValid k (f j)) → AllHave k (raw_span f i n)
span_valid k f i zero h = tt
span_valid k f i (suc n) h = (h i (omega arith), span_valid k f (i + 1) n (λ j l. h j (omega arith)))

raw_count-span : (f : ℕ → Raw) (i n : ℕ) → raw_count (raw_span f i n) ≡ n
raw_count-span f i zero = refl
raw_count-span f i (suc n) = ap (λ m. suc m) (raw_count-span f (i + 1) n)

held : (a : Layout) → IsSound a → (i : ℕ) → i < len_of a → IsContent (array_type_of a) (content_of (raw_row a i))
held a s i l = subst (IsContent (array_type_of a)) (sym (says a i)) (rows_valid a s i l)

mutual
  pub raw_valid : (a : Layout) → IsSound a → (i : ℕ) → i < len_of a → IsValid (array_type_of a) (raw_row a i)
  raw_valid (bools bs v) s i l = valid_if (boolean_type (nullability_by v)) (is_valid v i) (raw_boolean (get_or bs i false)) (held (bools bs v) s i l) (λ t. tt)
  raw_valid (numbers k zs v) s i l = valid_if (integer_type k (nullability_by v)) (is_valid v i) (raw_number k (get_or zs i (pos 0))) (held (numbers k zs v) s i l) (λ t. (refl, s.0 i (pos 0) l))
  raw_valid (strings k vs bs v) s i l = valid_if (type_of_strings k (nullability_by v)) (is_valid v i) (raw_string k (value_of (get_or vs i []) bs)) (held (strings k vs bs v) s i l) (λ t. let h = s.0 i l t in string_valid k (nullability_by v) (value_of (get_or vs i []) bs) h.1)
  raw_valid (constant k r n) s i l = s
  raw_valid (dictionary d v f) s i l = by_code (either_nullable (nullability_of (array_type_of d)) (nullability_of (array_type_of v))) (array_type_of v) (len_of v) (λ j. raw_row v j) (content_at d i) (s.3 i l) (λ j b. raw_valid v s.1 j b) (held (dictionary d v f) s i l)
  raw_valid (fixed_lists e m n v) s i l = valid_if (fixed_list (array_type_of e) m (nullability_by v)) (is_valid v i) (raw_tuple (raw_span (λ j. raw_row e j) (i * m) m)) (held (fixed_lists e m n v) s i l)
      (λ t. (raw_count-span (λ j. raw_row e j) (i * m) m, span_valid (array_type_of e) (λ j. raw_row e j) (i * m) m (λ j b. raw_valid e s.0 j (let w = mul-le (i + 1) m n m (omega arith) (omega arith) in omega (arith, w, s.1)))))
  raw_valid (list_views e o z f v) s i l = valid_if (list (array_type_of e) (nullability_by v)) (is_valid v i) (raw_tuple (raw_span (λ j. raw_row e j) (number_in (content_at o i)) (number_in (content_at z i)))) (held (list_views e o z f v) s i l)
      (λ t. span_valid (array_type_of e) (λ j. raw_row e j) (number_in (content_at o i)) (number_in (content_at z i)) (λ j b. raw_valid e s.0 j (let w = view_within (len_of e) (content_at o i) (content_at z i) (s.7 i l) in omega (arith, w))))
  raw_valid (records cs n v) s i l = valid_if (struct (fields_of cs) (nullability_by v)) (is_valid v i) (raw_tuple (raw_fields cs i)) (held (records cs n v) s i l) (λ t. fields_valid cs n i s.0 l)

  fields_valid : (cs : Columns) (n i : ℕ) → HaveLength cs n → i < n → FieldsHave (fields_of cs) (raw_fields cs i)
  fields_valid no_columns n i h l = tt
  fields_valid (column x a cs) n i h l = (raw_valid a h.0 i (subst (λ m. i < m) (sym h.1) l), fields_valid cs n i h.2 l)

-- raw values one after another, as a list
pub raws_from-range : (f : ℕ → Raw) (i n : ℕ) → raws_from (map f (range_with_len i n)) ≡ raw_span f i n
raws_from-range f i zero = refl
raws_from-range f i (suc n) = ap (raw_first (f i)) (raws_from-range f (i + 1) n)

pub raws_from-fields : (ns : List (List ℕ)) (fs : List Layout) (i : ℕ) → raws_from (map (λ a. raw_row a i) fs) ≡ raw_fields (columns_of ns fs) i
raws_from-fields ns [] i = refl
raws_from-fields [] (a ∷ fs) i = ap (raw_first (raw_row a i)) (raws_from-fields [] fs i)
raws_from-fields (n ∷ ns) (a ∷ fs) i = ap (raw_first (raw_row a i)) (raws_from-fields ns fs i)

-- each field has the rows of the struct array
pub fields_within : (ns : List (List ℕ)) (fs : List Layout) (n i : ℕ) → HaveLength (columns_of ns fs) n → i < n → All (λ a. i < len_of a) fs
fields_within ns fs n i h l = λ k d b. subst (λ m. i < m) (sym (each_length ns fs n k d h b)) l

-- the size does not depend on names
pub size_without_names : (ns : List (List ℕ)) (fs : List Layout) → columns_size (columns_of [] fs) ≡ columns_size (columns_of ns fs)
size_without_names ns [] = refl
size_without_names [] (a ∷ fs) = refl
size_without_names (n ∷ ns) (a ∷ fs) = ap (λ m. size_of a + m) (size_without_names ns fs)

-- the elements of the i-th of n lists of one size
pub fixed_within : (i s n m : ℕ) → i < n → m ≡ n * s → i * s + s ≤ m
fixed_within i s n m l e = let w = mul-le (i + 1) s n s (omega arith) (omega arith) in omega (arith, w, e)

pub ruleset values = (one_level, raws_from-range, raws_from-fields, fields_within, size_without_names, field_size, offsets_are_integers)
