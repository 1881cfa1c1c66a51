-- Columns as dictionaries.
use Rattle.std.proofs.Common.{◌≡◌, ◌<◌, ◌-◌, ℕ, pos, Bool, true, false, not, cond, List, [], ◌∷◌, length, map, get_or, Option, Bor, refl, sym, ap, subst, ◌∙◌, arith}
use Rattle.std.specs.List.{All}
use Rattle.std.proofs.lemmas.Bool.{false≢true}
use Rattle.std.proofs.lemmas.List.{length-map, get_or-map}
use Rattle.std.proofs.lemmas.List.Elements.{All-map}
use Rattle.vortex_model.specs.LogicalType.{LogicalType, boolean_type, integer_type, utf8, binary, IntKind, Nullability, nullable, non_nullable, is_nullable, nullability_of}
use Rattle.vortex_model.specs.Kept.{is_leaf}
use Rattle.vortex_model.specs.Content.{Content, null, integer, content_of, is_null, Raw, raw_null}
use Rattle.vortex_model.specs.Valid.{valid}
use Rattle.vortex_dtype_ptype.specs.Numbers.{HoldsNarrowly}
use Rattle.vortex_scalar_value.specs.View.{raw_at, content_at as value_content}
use Rattle.vortex_scalar_value.specs.declared.scalar_value.ScalarValue.{ScalarValue}
use Rattle.vortex_arrays_model.specs.Layout.{Layout, dictionary, numbers, Valid, len_of, content_at, is_valid, rows_of, pick, IsCode, IsSound}
use Rattle.vortex_arrays_model.proofs.RowsLemmas.{rows_by_position, row_at_position, row_count}
use Rattle.vortex_arrays_builder.specs.Types.{HasPlain, IsPlainLayout}
use Rattle.vortex_arrays_builder.specs.Plain.{is_there, MarksNulls}
use Rattle.vortex_arrays_builder.proofs.TooLargeLemmas.{contents, no_memory}
use Rattle.vortex_arrays_dictionary.specs.Distinct.{distinct}
use Rattle.vortex_arrays_dictionary.specs.Codes.{AreCodes}
use Rattle.vortex_arrays_dictionary.specs.Dictionary.{IsDictionaryOf}
use Rattle.vortex_arrays_dictionary.specs.Numbering.{AreOf, IsNumbering}

abbrev Value : Type 0
Value = Option (Bor ScalarValue)

pub leaves_plain : (k : LogicalType) → is_leaf k ≡ true → HasPlain k
leaves_plain (boolean_type n) l = tt
leaves_plain (integer_type i n) l = tt
leaves_plain (utf8 n) l = tt
leaves_plain (binary n) l = tt
leaves_plain k l = absurd (cc (l))

pub values_held : (k : LogicalType) (vs : List Value) → All (λ value. valid k (raw_at value) ≡ true) vs → AreOf k (map raw_at vs)
values_held k vs h = All-map (λ r. valid k r ≡ true) raw_at vs h

pub held_values : (k : LogicalType) (vs : List Value) → AreOf k (map raw_at vs) → All (λ value. valid k (raw_at value) ≡ true) vs
held_values k vs h = λ i d l. subst (λ r. valid k r ≡ true) (get_or-map raw_at vs i d raw_null l) (h i raw_null (omega (arith, length-map vs raw_at)))

-- ---- null rows

not_null : (k : LogicalType) (r : Raw) → is_leaf k ≡ true → valid k r ≡ true → nullability_of k ≡ non_nullable → is_null (content_of r) ≡ false
not_null (boolean_type n) raw_null l h e = absurd (false≢true (sym (ap is_nullable e) ∙ h))
not_null (integer_type i n) raw_null l h e = absurd (false≢true (sym (ap is_nullable e) ∙ h))
not_null (utf8 n) raw_null l h e = absurd (false≢true (sym (ap is_nullable e) ∙ h))
not_null (binary n) raw_null l h e = absurd (false≢true (sym (ap is_nullable e) ∙ h))
not_null k raw_null l h e = absurd (cc (l))
not_null k r l h e = refl

there : (k : LogicalType) (n : Nullability) (r : Raw) → is_leaf k ≡ true → nullability_of k ≡ n → valid k r ≡ true → is_there n r ≡ not (is_null (content_of r))
there k nullable r l e h = refl
there k non_nullable r l e h = ap not (sym (not_null k r l h e))

-- ---- the rows

-- the value at the code of a row
pub code_row : (b : Bool) (c : Content) (n m : ℕ) (f : ℕ → Content) → b ≡ not (is_null c) → (is_null c ≡ false → (n < m) × (f n ≡ c)) → IsCode m (cond b (integer (pos n)) null) × (pick (cond b (integer (pos n)) null) f ≡ c)
code_row true null n m f e h = absurd (cc (e))
code_row false null n m f e h = (tt, refl)
code_row true c n m f e h = h refl
code_row false c n m f e h = absurd (cc (e))

abbrev codes_in : List ℕ → Valid → IntKind → Layout
codes_in ns v kind = numbers kind (map pos ns) v

len_values : (values : Layout) (ds : List Raw) → rows_of values ≡ map content_of ds → len_of values ≡ length ds
len_values values ds e = sym (row_count values) ∙ ap length e ∙ length-map ds content_of

value_at : (values : Layout) (ds : List Raw) (n : ℕ) → rows_of values ≡ map content_of ds → n < length ds → content_at values n ≡ content_of (get_or ds n raw_null)
value_at values ds n e l =
    sym (row_at_position values n null (subst (λ m. n < m) (sym (len_values values ds e)) l))
    ∙ ap (λ xs. get_or xs n null) e ∙ get_or-map content_of ds n raw_null null l

-- a column of the type, numbered, with its nulls and its distinct values
pub record IsNumbered (k : LogicalType) (rs ds : List Raw) (ns : List ℕ) (v : Valid) (values : Layout) : Type 0 where
  pub leaf : is_leaf k ≡ true
  pub held : AreOf k rs
  pub numbering : IsNumbering k rs ds ns
  pub nulls : MarksNulls (nullability_of k) rs v
  pub rows : rows_of values ≡ map content_of ds

null_row : (k : LogicalType) (rs ds : List Raw) (ns : List ℕ) (v : Valid) (values : Layout) → IsNumbered k rs ds ns v values → (i : ℕ) → i < length rs → is_valid v i ≡ not (is_null (content_of (get_or rs i raw_null)))
null_row k rs ds ns v values p i l = p.nulls.bits i l ∙ there k (nullability_of k) (get_or rs i raw_null) p.leaf refl (p.held i raw_null l)

-- the code of each row is the index of its value
names : (k : LogicalType) (rs ds : List Raw) (ns : List ℕ) (v : Valid) (values : Layout) (kind : IntKind) → IsNumbered k rs ds ns v values → (i : ℕ) → i < length rs →
    IsCode (len_of values) (content_at (codes_in ns v kind) i) × (content_at (dictionary (codes_in ns v kind) values false) i ≡ content_of (get_or rs i raw_null))
names k rs ds ns v values kind p i l =
    let many : length ns ≡ length rs = p.numbering.many in
    let code : get_or (map pos ns) i (pos 0) ≡ pos (get_or ns i 0) = get_or-map pos ns i 0 (pos 0) (omega arith) in
    let row = code_row (is_valid v i) (content_of (get_or rs i raw_null)) (get_or ns i 0) (len_of values) (content_at values) (null_row k rs ds ns v values p i l)
    (λ f.
    let stands = p.numbering.stands i l f in
    (subst (λ m. get_or ns i 0 < m) (sym (len_values values ds p.rows)) stands.0, value_at values ds (get_or ns i 0) p.rows stands.0 ∙ stands.1)) in (
      subst (λ z. IsCode (len_of values) (cond (is_valid v i) (integer z) null)) (sym code) row.0,
      ap (λ z. pick (cond (is_valid v i) (integer z) null) (content_at values)) code ∙ row.1,
    )

code_count : (k : LogicalType) (rs ds : List Raw) (ns : List ℕ) (v : Valid) (values : Layout) → IsNumbered k rs ds ns v values → length (map pos ns) ≡ length rs
code_count k rs ds ns v values p = length-map ns pos ∙ p.numbering.many

pub built_sound : (k : LogicalType) (rs ds : List Raw) (ns : List ℕ) (m : ℕ) (v : Valid) (codes values : Layout) → IsNumbered k rs ds ns v values → AreCodes ns m v codes → IsSound codes → IsSound values → IsSound (dictionary codes values false)
built_sound k rs ds ns m v codes values p c s t =
    subst (λ x. IsSound (dictionary x values false)) (sym c.made)
    (subst IsSound c.made s, t, tt, (λ i l. (names k rs ds ns v values c.kind p i (subst (λ n. i < n) (code_count k rs ds ns v values p) l)).0), (λ x. absurd (false≢true x)))

pub built_rows : (k : LogicalType) (rs ds : List Raw) (ns : List ℕ) (m : ℕ) (v : Valid) (codes values a : Layout) → IsNumbered k rs ds ns v values → AreCodes ns m v codes → a ≡ dictionary codes values false → rows_of a ≡ map content_of rs
built_rows k rs ds ns m v codes values a p c e =
    let many = code_count k rs ds ns v values p in
    ap rows_of e ∙ ap (λ x. rows_of (dictionary x values false)) c.made
    ∙ rows_by_position (dictionary (codes_in ns v c.kind) values false) (map content_of rs) (length-map rs content_of ∙ sym many) (λ i l.
    let n : i < length rs = subst (λ j. i < j) many l in
    get_or-map content_of rs i raw_null null n ∙ sym (names k rs ds ns v values c.kind p i n).1)

pub built_dictionary : (k : LogicalType) (rs ds : List Raw) (ns : List ℕ) (m : ℕ) (v : Valid) (codes values a : Layout) → IsNumbered k rs ds ns v values → AreCodes ns m v codes → m ≡ length ds → IsPlainLayout values → a ≡ dictionary codes values false → IsDictionaryOf (map content_of rs) a
built_dictionary k rs ds ns m v codes values a p c count plain e =
    let each_once : map content_of ds ≡ distinct (map content_of rs) = p.numbering.each_once in
    let size : m ≡ length (distinct (map content_of rs)) = count ∙ sym (length-map ds content_of) ∙ ap length each_once in
    record {
      kind = c.kind;
      codes = map pos ns;
      nulls = v;
      values = values;
      made = e ∙ ap (λ x. dictionary x values false) c.made;
      rows = built_rows k rs ds ns m v codes values a p c e;
      each_once = p.rows ∙ each_once;
      plain = plain;
      narrow = subst (λ n. HoldsNarrowly true (pos (n - 1)) c.kind) size c.narrow;
      null_codes = λ i l.
          let n : i < length rs = subst (λ j. i < j) (length-map rs content_of) l in
          null_row k rs ds ns v values p i n ∙ ap (λ x. not (is_null x)) (sym (get_or-map content_of rs i raw_null null n));
    }

-- ---- of values

pub numbered : (k : LogicalType) (vs items : List Value) (ns : List ℕ) (n : Nullability) (v : Valid) (values : Layout) → is_leaf k ≡ true → All (λ value. valid k (raw_at value) ≡ true) vs → IsNumbering k (map raw_at vs) (map raw_at items) ns → n ≡ nullability_of k → MarksNulls n (map raw_at vs) v → rows_of values ≡ map value_content items → IsNumbered k (map raw_at vs) (map raw_at items) ns v values
numbered k vs items ns n v values leaf held p e nulls rows = record {
  leaf = leaf;
  held = values_held k vs held;
  numbering = p;
  nulls = subst (λ m. MarksNulls m (map raw_at vs) v) e nulls;
  rows = rows ∙ sym (contents items);
}

pub value_rows : (vs : List Value) (a : Layout) → rows_of a ≡ map content_of (map raw_at vs) → rows_of a ≡ map value_content vs
value_rows vs a h = h ∙ contents vs

pub value_dictionary : (vs : List Value) (a : Layout) → IsDictionaryOf (map content_of (map raw_at vs)) a → IsDictionaryOf (map value_content vs) a
value_dictionary vs a h = subst (λ cs. IsDictionaryOf cs a) (contents vs) h

-- ---- too large values

-- the array in plain layout has the distinct values
pub each_distinct : (vs items : List Value) → map content_of (map raw_at items) ≡ distinct (map content_of (map raw_at vs)) → map value_content items ≡ distinct (map value_content vs)
each_distinct vs items e = sym (contents items) ∙ e ∙ ap distinct (contents vs)

pub ruleset built = (no_memory, leaves_plain)
