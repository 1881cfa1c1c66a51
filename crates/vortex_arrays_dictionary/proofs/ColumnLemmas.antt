-- The keys of columns, and columns as dictionaries.
use Rattle.std.proofs.Common.{replicate, ◌≡◌, ◌<◌, ◌≤◌, ◌-◌, ℕ, ℤ, pos, Bool, true, false, not, cond, List, [], length, map, get_or, refl, sym, ap, subst, ◌∙◌, arith, IsTrue}
use Rattle.std.specs.List.{All, range_with_len}
use Rattle.std.proofs.lemmas.List.FromFn.{get_or-map-range_with_len, length-map-range_with_len, fill_by_all}
use Rattle.std.specs.Ordering.{int_eq}
use Rattle.std.specs.Str.{bytes_eq}
use Rattle.std.specs.Prelude.{nat_eq}
use Rattle.std.specs.Bool.{beq}
use Rattle.std.specs.Cmp.{both_ways}
use Rattle.std.specs.Prelude.{unsigned_abs}
use Rattle.std.proofs.lemmas.Bool.{false≢true}
use Rattle.std.proofs.lemmas.Bool.Decides.{Decides-int_eq, Decides-eqb}
use Rattle.std.proofs.lemmas.List.{length-map, length-replicate, get_or-map, get_or-replicate, get_or_default, take_all}
use Rattle.vortex_model.specs.LogicalType.{IntKind, Nullability, nullable, non_nullable, nullability_of, either_nullable, with_nullability, eq_flag}
use Rattle.vortex_model.specs.Content.{Content, null, boolean, integer, is_null, equal_content}
use Rattle.vortex_dtype_ptype.specs.Numbers.{HoldsNarrowly}
use Rattle.vortex_arrays_view.specs.Views.{value_of, HasValue}
use Rattle.vortex_arrays_model.specs.Layout.{Strings, texts, byte_strings, Layout, bools, numbers, strings, dictionary, Valid, required, all_valid, all_null, by_array, len_of, content_at, is_valid, rows_of, pick, string_content, nullability_by, array_type_of, IsCode, IsSound, HasLength}
use Rattle.vortex_arrays_model.specs.Parts.{valid_in}
use Rattle.vortex_arrays_model.proofs.RowsLemmas.{rows_by_position, row_at_position, row_count, string_there}
use Rattle.vortex_arrays_dictionary.specs.Codes.{AreCodes}
use Rattle.vortex_arrays_dictionary.specs.Columns.{is_plain_leaf, valid_flags, bytes_or_none, IsColumnNumbered, IsDictionaryFrom}
use Rattle.vortex_arrays_builder.specs.Types.{IsPlainLayout}
use Rattle.vortex_arrays_dictionary.specs.declared.byte_key.ByteKey.{ByteKey}
use Rattle.vortex_arrays_dictionary.specs.Distinct.{distinct}
use Rattle.vortex_arrays_dictionary.specs.Firsts.{at_places, AreKeysOf, AreNumbered}
use Rattle.vortex_arrays_dictionary.specs.Keyed.{same_bytes}
use Rattle.vortex_arrays_dictionary.proofs.BuildLemmas.{code_row}

-- ---- the keys of a column's rows

present_so : (b : Bool) (c : Content) → is_null c ≡ false → b ≡ not (is_null (cond b c null))
present_so true c h = sym (ap not h)
present_so false c h = refl

full : (b : Bool) (c : Content) → b ≡ true → cond b c null ≡ c
full b c h = ap (λ x. cond x c null) h

flag_at : (v : Valid) (n : ℕ) (present : List Bool) (i : ℕ) → present ≡ valid_flags v n → i < n → get_or present i false ≡ is_valid v i
flag_at v n present i e l = ap (λ bs. get_or bs i false) e ∙ get_or-map-range_with_len (is_valid v) 0 n i i false l (omega arith)

pub flag_count : (v : Valid) (n : ℕ) (present : List Bool) → present ≡ valid_flags v n → length present ≡ n
flag_count v n present e = ap length e ∙ length-map-range_with_len (is_valid v) 0 n

-- f are the contents of the rows that are not null
rows_keyed : {K : Type 0} (eq : K → K → Bool) (keys : List K) (present : List Bool) (a : Layout) (v : Valid) (f : ℕ → Content) → len_of a ≡ length keys → ((i : ℕ) → content_at a i ≡ cond (is_valid v i) (f i) null) → ((i : ℕ) → is_null (f i) ≡ false) → present ≡ valid_flags v (length keys)
    → ((i j : ℕ) (d : K) → i < length keys → j < length keys → is_valid v i ≡ true → is_valid v j ≡ true → eq (get_or keys i d) (get_or keys j d) ≡ equal_content (f i) (f j)) → AreKeysOf eq keys present (rows_of a)
rows_keyed eq keys present a v f many content there same tells = record {
  many = row_count a ∙ many;
  nulls = λ i l. flags i l ∙ present_so (is_valid v i) (f i) (there i) ∙ ap (λ c. not (is_null c)) (sym (row i l));
  tells = λ i j d l m p q.
      let x : is_valid v i ≡ true = sym (flags i l) ∙ p in
      let y : is_valid v j ≡ true = sym (flags j m) ∙ q in
      tells i j d l m x y ∙ (λ t. equal_content (sym (row i l ∙ full (is_valid v i) (f i) x) t) (sym (row j m ∙ full (is_valid v j) (f j) y) t));
}
  where
    flags : (i : ℕ) → i < length keys → get_or present i false ≡ is_valid v i
    flags i l = flag_at v (length keys) present i same l

    row : (i : ℕ) → i < length keys → get_or (rows_of a) i null ≡ cond (is_valid v i) (f i) null
    row i l = row_at_position a i null (subst (λ n. i < n) (sym many) l) ∙ content i

naturals_equal : (a b : ℕ) → nat_eq a b ≡ int_eq (pos a) (pos b)
naturals_equal a b = both_ways (nat_eq a b) (int_eq (pos a) (pos b))
    (λ h. (Decides-int_eq (pos a) (pos b)).1 (ap pos ((Decides-eqb a b).0 h)))
    (λ h. (Decides-eqb a b).1 (ap unsigned_abs ((Decides-int_eq (pos a) (pos b)).0 h)))

pub numbers_keyed : (k : IntKind) (zs : List ℤ) (v : Valid) (present : List Bool) → present ≡ valid_flags v (length zs) → AreKeysOf int_eq zs present (rows_of (numbers k zs v))
numbers_keyed k zs v present same = rows_keyed int_eq zs present (numbers k zs v) v (λ i. integer (get_or zs i (pos 0))) refl (λ i. refl) (λ i. refl) same
    (λ i j d l m p q. λ t. int_eq (get_or_default zs i d (pos 0) l t) (get_or_default zs j d (pos 0) m t))

flags_equal : (a b : Bool) → beq a b ≡ eq_flag a b
flags_equal true true = refl
flags_equal true false = refl
flags_equal false true = refl
flags_equal false false = refl

pub bools_keyed : (bs : List Bool) (v : Valid) (present : List Bool) → present ≡ valid_flags v (length bs) → AreKeysOf beq bs present (rows_of (bools bs v))
bools_keyed bs v present same = rows_keyed beq bs present (bools bs v) v (λ i. boolean (get_or bs i false)) refl (λ i. refl) (λ i. refl) same
    (λ i j d l m p q. (λ t. beq (get_or_default bs i d false l t) (get_or_default bs j d false m t)) ∙ flags_equal (get_or bs i false) (get_or bs j false))

pub naturals_keyed : (xs : List ℕ) (present : List Bool) (cs : List Content) → AreKeysOf int_eq (map pos xs) present cs → AreKeysOf nat_eq xs present cs
naturals_keyed xs present cs h =
    let many : length (map pos xs) ≡ length xs = length-map xs pos in
    record {
      many = h.many ∙ many;
      nulls = λ i l. h.nulls i (subst (λ n. i < n) (sym many) l);
      tells = λ i j d l m p q.
          naturals_equal (get_or xs i d) (get_or xs j d)
          ∙ (λ t. int_eq (sym (get_or-map pos xs i d (pos d) l) t) (sym (get_or-map pos xs j d (pos d) m) t))
          ∙ h.tells i j (pos d) (subst (λ n. i < n) (sym many) l) (subst (λ n. j < n) (sym many) m) p q;
    }

strings_equal : (s : Strings) (xs ys : List ℕ) → bytes_eq xs ys ≡ equal_content (string_content s xs) (string_content s ys)
strings_equal texts xs ys = refl
strings_equal byte_strings xs ys = refl

key_count : (keys : List ByteKey) (n : ℕ) (f : ℕ → List ℕ) → map (λ k. k.bytes.now) keys ≡ map f (range_with_len 0 n) → length keys ≡ n
key_count keys n f e = sym (length-map keys (λ k. k.bytes.now)) ∙ ap length e ∙ length-map-range_with_len f 0 n

key_at : (keys : List ByteKey) (n i : ℕ) (f : ℕ → List ℕ) (d : ByteKey) → map (λ k. k.bytes.now) keys ≡ map f (range_with_len 0 n) → i < n → (get_or keys i d).bytes.now ≡ f i
key_at keys n i f d e l =
    sym (get_or-map (λ k. k.bytes.now) keys i d [] (subst (λ m. i < m) (sym (key_count keys n f e)) l))
    ∙ ap (λ bs. get_or bs i []) e ∙ get_or-map-range_with_len f 0 n i i [] l (omega arith)

pub strings_keyed : (s : Strings) (vs bs : List (List ℕ)) (v : Valid) (present : List Bool) (keys : List ByteKey) → present ≡ valid_flags v (length vs) → map (λ k. k.bytes.now) keys ≡ map (bytes_or_none vs bs present) (range_with_len 0 (length vs)) → AreKeysOf same_bytes keys present (rows_of (strings s vs bs v))
strings_keyed s vs bs v present keys same e =
    let many : length keys ≡ length vs = key_count keys (length vs) (bytes_or_none vs bs present) e in
    rows_keyed same_bytes keys present (strings s vs bs v) v (λ i. string_content s (value_of (get_or vs i []) bs)) (sym many) (λ i. refl) (λ i. string_there s (value_of (get_or vs i []) bs)) (subst (λ n. present ≡ valid_flags v n) (sym many) same)
    (λ i j d l m p q.
    let x : i < length vs = subst (λ n. i < n) many l in
    let y : j < length vs = subst (λ n. j < n) many m in
    (λ t. bytes_eq (value i x d p t) (value j y d q t)) ∙ strings_equal s (value_of (get_or vs i []) bs) (value_of (get_or vs j []) bs))
  where
    value : (i : ℕ) → i < length vs → (d : ByteKey) → is_valid v i ≡ true → (get_or keys i d).bytes.now ≡ value_of (get_or vs i []) bs
    value i l d p = key_at keys (length vs) i (bytes_or_none vs bs present) d e l ∙ ap (λ b. cond b (value_of (get_or vs i []) bs) []) (flag_at v (length vs) present i same l ∙ p)

pub key_rows : (vs bs : List (List ℕ)) (v : Valid) (present : List Bool) (keys : List ByteKey) → present ≡ valid_flags v (length vs) → map (λ k. k.bytes.now) keys ≡ map (bytes_or_none vs bs present) (range_with_len 0 (length vs)) → length present ≡ length keys
key_rows vs bs v present keys same e = flag_count v (length vs) present same ∙ sym (key_count keys (length vs) (bytes_or_none vs bs present) e)

-- the views of rows that are not null have values
pub values_held : (vs bs : List (List ℕ)) (v : Valid) (present : List Bool) → present ≡ valid_flags v (length vs) → ((i : ℕ) → i < length vs → IsTrue (is_valid v i) → HasValue (get_or vs i []) bs) → (i : ℕ) → i < length vs → IsTrue (get_or present i false) → HasValue (get_or vs i []) bs
values_held vs bs v present same h i l t = h i l (subst IsTrue (flag_at v (length vs) present i same l) t)

-- packed booleans without null are the flags of an array of them
pub packed_flags : (a : Layout) (bits : List Bool) (v : Valid) → a ≡ bools bits v → v ≡ required → bits ≡ valid_flags (by_array a) (len_of a)
packed_flags a bits v e f =
    fill_by_all (λ i. get_or bits i false) bits (length bits) false refl (λ k l. refl)
    ∙ ap (λ x. valid_flags (by_array x) (len_of x)) (sym (e ∙ ap (bools bits) f))

pub ruleset packed = (packed_flags)

-- the flags where all rows are null, or none is
flags_by_bits : (v : Valid) (bits : List Bool) (n : ℕ) → length bits ≡ n → ((i : ℕ) → i < n → get_or bits i false ≡ is_valid v i) → bits ≡ valid_flags v n
flags_by_bits v bits n len each = fill_by_all (is_valid v) bits n false len each

pub all_true : (n : ℕ) → replicate n true ≡ valid_flags all_valid n
all_true n = flags_by_bits all_valid (replicate n true) n (length-replicate n true) (λ i l. get_or-replicate n i true false l)

pub all_required : (n : ℕ) → replicate n true ≡ valid_flags required n
all_required n = flags_by_bits required (replicate n true) n (length-replicate n true) (λ i l. get_or-replicate n i true false l)

pub all_false : (n : ℕ) → replicate n false ≡ valid_flags all_null n
all_false n = flags_by_bits all_null (replicate n false) n (length-replicate n false) (λ i l. get_or-replicate n i false false l)

pub ruleset flags = (all_true, all_required, all_false)

-- natural numbers are the keys of the same integers
pub items_numbered : (zs : List ℤ) (xs : List ℕ) (present : List Bool) (firsts ns : List ℕ) → zs ≡ map pos xs → ((cs : List Content) → AreKeysOf nat_eq xs present cs → AreNumbered cs firsts ns) → (cs : List Content) → AreKeysOf int_eq zs present cs → AreNumbered cs firsts ns
items_numbered zs xs present firsts ns e h cs t = h cs (naturals_keyed xs present cs (subst (λ ys. AreKeysOf int_eq ys present cs) e t))

pub ruleset strings_there = (flag_count, values_held)

-- ---- the nulls of a plain column

pub fits_in : (a : Layout) → is_plain_leaf a ≡ true → IsSound a → HasLength (valid_in a) (len_of a)
fits_in (bools bs v) p s = s
fits_in (numbers k zs v) p s = s.1
fits_in (strings s vs bs v) p h = h.1
fits_in a p s = absurd (cc (p))

pub null_in : (a : Layout) (i : ℕ) → is_plain_leaf a ≡ true → is_valid (valid_in a) i ≡ not (is_null (content_at a i))
null_in (bools bs v) i p = present_so (is_valid v i) (boolean (get_or bs i false)) refl
null_in (numbers k zs v) i p = present_so (is_valid v i) (integer (get_or zs i (pos 0))) refl
null_in (strings s vs bs v) i p = present_so (is_valid v i) (string_content s (value_of (get_or vs i []) bs)) (string_there s (value_of (get_or vs i []) bs))
null_in a i p = absurd (cc (p))

either_same : (n : Nullability) → either_nullable n n ≡ n
either_same non_nullable = refl
either_same nullable = refl

-- a dictionary of such a column's values has its type
of_type : (a : Layout) → is_plain_leaf a ≡ true → with_nullability (either_nullable (nullability_by (valid_in a)) (nullability_of (array_type_of a))) (array_type_of a) ≡ array_type_of a
of_type (bools bs v) p = ap (λ n. with_nullability n (array_type_of (bools bs v))) (either_same (nullability_by v))
of_type (numbers k zs v) p = ap (λ n. with_nullability n (array_type_of (numbers k zs v))) (either_same (nullability_by v))
of_type (strings texts vs bs v) p = ap (λ n. with_nullability n (array_type_of (strings texts vs bs v))) (either_same (nullability_by v))
of_type (strings byte_strings vs bs v) p = ap (λ n. with_nullability n (array_type_of (strings byte_strings vs bs v))) (either_same (nullability_by v))
of_type a p = absurd (cc (p))

-- ---- a column as a dictionary

abbrev codes_in : List ℕ → Layout → IntKind → Layout
codes_in ns a kind = numbers kind (map pos ns) (valid_in a)

row_of : (a : Layout) (i : ℕ) → i < len_of a → get_or (rows_of a) i null ≡ content_at a i
row_of a i l = row_at_position a i null l

module _ (a : Layout) (firsts ns : List ℕ) (values : Layout) (p : IsColumnNumbered a firsts ns values) where
  column_many : length ns ≡ len_of a
  column_many = p.numbered.many ∙ row_count a

  first_at : (n : ℕ) → n < length firsts → content_at values n ≡ get_or (rows_of a) (get_or firsts n 0) null
  first_at n l =
      let within : get_or firsts n 0 < length (rows_of a) = p.numbered.firsts_of_all.within n 0 l in
      p.values_there.content n l ∙ sym (row_of a (get_or firsts n 0) (subst (λ m. get_or firsts n 0 < m) (row_count a) within))

  -- the code of each row is the index of its value
  column_names : (kind : IntKind) (i : ℕ) → i < len_of a → IsCode (len_of values) (content_at (codes_in ns a kind) i) × (content_at (dictionary (codes_in ns a kind) values false) i ≡ content_at a i)
  column_names kind i l =
      let code : get_or (map pos ns) i (pos 0) ≡ pos (get_or ns i 0) = get_or-map pos ns i 0 (pos 0) (subst (λ m. i < m) (sym column_many) l) in
      let same : get_or (rows_of a) i null ≡ content_at a i = row_of a i l in
      let row = code_row (is_valid (valid_in a) i) (content_at a i) (get_or ns i 0) (len_of values) (content_at values) (null_in a i p.leaf)
      (λ f.
      let stands = p.numbered.firsts_of_all.stands i (subst (λ m. i < m) (sym (row_count a)) l) (ap is_null same ∙ f) in
      (subst (λ m. get_or ns i 0 < m) (sym p.values_there.len) stands.0, first_at (get_or ns i 0) stands.0 ∙ stands.1 ∙ same)) in (
        subst (λ z. IsCode (len_of values) (cond (is_valid (valid_in a) i) (integer z) null)) (sym code) row.0,
        ap (λ z. pick (cond (is_valid (valid_in a) i) (integer z) null) (content_at values)) code ∙ row.1,
      )

  code_count : length (map pos ns) ≡ len_of a
  code_count = length-map ns pos ∙ column_many

  pub column_sound : (m : ℕ) (codes : Layout) → AreCodes ns m (valid_in a) codes → IsSound codes → IsSound values → IsSound (dictionary codes values false)
  column_sound m codes c s t =
      subst (λ x. IsSound (dictionary x values false)) (sym c.made)
      (subst IsSound c.made s, t, tt, (λ i l. (column_names c.kind i (subst (λ n. i < n) code_count l)).0), (λ x. absurd (false≢true x)))

  pub column_type : (m : ℕ) (codes d : Layout) → AreCodes ns m (valid_in a) codes → d ≡ dictionary codes values false → array_type_of d ≡ array_type_of a
  column_type m codes d c e =
      ap array_type_of e ∙ ap (λ x. array_type_of (dictionary x values false)) c.made
      ∙ ap (λ k. with_nullability (either_nullable (nullability_by (valid_in a)) (nullability_of k)) k) p.values_there.kind ∙ of_type a p.leaf

  pub column_rows : (m : ℕ) (codes d : Layout) → AreCodes ns m (valid_in a) codes → d ≡ dictionary codes values false → rows_of d ≡ rows_of a
  column_rows m codes d c e =
      ap rows_of e ∙ ap (λ x. rows_of (dictionary x values false)) c.made
      ∙ rows_by_position (dictionary (codes_in ns a c.kind) values false) (rows_of a) (row_count a ∙ sym code_count) (λ i l.
      let within : i < len_of a = subst (λ n. i < n) code_count l in
      row_of a i within ∙ sym (column_names c.kind i within).1)

  pub column_once : rows_of values ≡ distinct (rows_of a)
  column_once = rows_by_position values (distinct (rows_of a))
      (ap length (sym once) ∙ length-map firsts (λ q. get_or (rows_of a) q null) ∙ sym p.values_there.len)
      (λ n l.
      let within : n < length firsts = subst (λ m. n < m) p.values_there.len l in
      ap (λ cs. get_or cs n null) (sym once) ∙ get_or-map (λ q. get_or (rows_of a) q null) firsts n 0 null within ∙ sym (first_at n within))
    where
      once : at_places (rows_of a) firsts ≡ distinct (rows_of a)
      once = p.numbered.firsts_of_all.each_once ∙ ap distinct (take_all (length (rows_of a)) (rows_of a) (omega arith))

  pub column_narrow : (m : ℕ) (codes : Layout) (c : AreCodes ns m (valid_in a) codes) → m ≡ length firsts → HoldsNarrowly true (pos (length (distinct (rows_of a)) - 1)) c.kind
  column_narrow m codes c e =
      let count : m ≡ length (distinct (rows_of a)) = e ∙ sym p.values_there.len ∙ sym (row_count values) ∙ ap length column_once in
      subst (λ n. HoldsNarrowly true (pos (n - 1)) c.kind) count c.narrow

  pub column_nulls : (i : ℕ) → i < length (rows_of a) → is_valid (valid_in a) i ≡ not (is_null (get_or (rows_of a) i null))
  column_nulls i l = null_in a i p.leaf ∙ ap (λ c. not (is_null c)) (sym (row_of a i (subst (λ m. i < m) (row_count a) l)))

  pub column_dictionary : (m : ℕ) (codes d : Layout) → AreCodes ns m (valid_in a) codes → m ≡ length firsts → IsPlainLayout values → d ≡ dictionary codes values false → IsDictionaryFrom a d
  column_dictionary m codes d c count plain e = record {
    kind = column_type m codes d c e;
    rows = column_rows m codes d c e;
    layout = record {
      kind = c.kind;
      codes = map pos ns;
      nulls = valid_in a;
      values = values;
      made = e ∙ ap (λ x. dictionary x values false) c.made;
      rows = column_rows m codes d c e;
      each_once = column_once;
      plain = plain;
      narrow = column_narrow m codes c count;
      null_codes = column_nulls;
    };
  }

  -- codes below the number of values, one for each row
  pub column_small : (m : ℕ) → m ≡ length firsts → All (λ n. n ≤ m - 1) ns
  column_small m e = subst (λ k. All (λ n. n ≤ k - 1) ns) (sym e) p.numbered.firsts_of_all.small

  pub column_fits : IsSound a → HasLength (valid_in a) (length ns)
  column_fits s = subst (HasLength (valid_in a)) (sym column_many) (fits_in a p.leaf s)
