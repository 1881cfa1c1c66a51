-- Struct arrays end to end, field by field.
use Rattle.std.proofs.Common.{◌≡◌, ◌<◌, ◌≤◌, ◌+◌, ℕ, zero, suc, cond, List, [], ◌∷◌, ◌++◌, length, take, get_or, refl, sym, ap, subst, ◌∙◌, ⊎_elim, arith}
use Rattle.std.specs.List.{All}
use Rattle.std.proofs.lemmas.List.{take_more, take_all, length-append, get_or_append_left, get_or-append-add}
use Rattle.std.proofs.lemmas.List.Concat.{flat_map_single}
use Rattle.std.proofs.lemmas.List.Folds.{flat_map-map}
use Rattle.std.proofs.lemmas.List.Elements.{All-nil, All-append, All-cons, All-head, All-tail, All-map}
use Rattle.vortex_model.specs.LogicalType.{LogicalType, Fields, no_fields, field, struct, boolean_type, non_nullable}
use Rattle.vortex_model.specs.Content.{first, null, tuple}
use Rattle.vortex_model.proofs.Lists.{same_item}
use Rattle.vortex_arrays_model.specs.Layout.{Layout, bools, numbers, strings, constant, dictionary, fixed_lists, list_views, records, Valid, required, Columns, no_columns, column, len_of, array_type_of, fields_of, content_at, row_at, rows_of, is_valid, nullability_by, IsSound, HasLength, HaveLength}
use Rattle.vortex_arrays_model.specs.Parts.{columns_of, valid_in}
use Rattle.vortex_arrays_model.proofs.CanonicalLemmas.{last_or_before}
use Rattle.vortex_arrays_model.proofs.RowsLemmas.{row_at_position, row_count}
use Rattle.vortex_arrays_struct.specs.Records.{AreRecords, columns_in, arrays_in}
use Rattle.vortex_arrays_struct.proofs.Places.{arrays_of_parts}
use Rattle.vortex_arrays_struct.proofs.Fitting.{parts_sound}
use Rattle.vortex_arrays_builder.specs.Types.{IsPlainLayout, ArePlainLayouts}
use Rattle.vortex_arrays_concat.specs.EndToEnd.{IsEndToEnd, rows_in_all, AreOfType, IsConcatenation}
use Rattle.vortex_arrays_concat.specs.Columns.{IsAt, validities, field_at, fields_at, HasField, HaveField, AreFields, IsColumn, IsJoined}
use Rattle.vortex_arrays_concat.proofs.RowLemmas.{uncounted}
use Rattle.vortex_arrays_concat.proofs.ColumnLemmas.{AreItems, items_none, items_more, items_kinds, items_all, item_at, at_one, at_within, at_below, rows_joined, rows_more, lengths_joined, valid_at_place, kind_by_first}

-- ---- the arrays of a field

abbrev none : Layout
none = bools [] required

pub there : (i : ℕ) (a : Layout) (xs : List (List ℕ)) (fs : List Layout) (n : ℕ) (v : Valid) → a ≡ records (columns_of xs fs) n v → IsSound a → i < length fs → HasField i a
there i a xs fs n v e sound l = record {
  sound = sound;
  records = subst AreRecords (sym e) tt;
  within = subst (λ bs. i < length bs) (arrays_of_parts a xs fs n v e) l;
}

pub found : (i : ℕ) (a b : Layout) (xs : List (List ℕ)) (fs : List Layout) (n : ℕ) (v : Valid) → a ≡ records (columns_of xs fs) n v → i < length fs → b ≡ get_or fs i b → b ≡ field_at i a
found i a b xs fs n v e l is = same_item fs i b none l is ∙ ap (λ bs. get_or bs i none) (arrays_of_parts a xs fs n v e)

pub ruleset field_there = (there, found)

abbrev pub one_field : ℕ → Layout → List Layout
one_field i a = field_at i a ∷ []

abbrev pub Gathered : ℕ → List Layout → ℕ → List Layout → Type 0
Gathered i ls k xs = AreItems (HasField i) (one_field i) ls k xs

pub no_fields_yet : (i : ℕ) (ls : List Layout) → Gathered i ls 0 []
no_fields_yet i ls = items_none (HasField i) (one_field i) ls

pub more_fields : (i : ℕ) (ls : List Layout) (k : ℕ) (a b : Layout) (old new : List Layout) → Gathered i ls k old → k < length ls → a ≡ get_or ls k a → HasField i a → b ≡ field_at i a → new ≡ old ++ b ∷ [] → Gathered i ls (k + 1) new
more_fields i ls k a b old new h l e p q made =
    items_more (HasField i) (one_field i) ls k a old new h l e p (made ∙ ap (λ x. old ++ x ∷ []) q)

pub all_fields : (i : ℕ) (ls : List Layout) (k : ℕ) (xs : List Layout) → Gathered i ls k xs → length ls ≤ k → xs ≡ fields_at i ls
all_fields i ls k xs h l = items_all (HasField i) (one_field i) ls k xs h l ∙ flat_map_single (field_at i) ls

pub all_have : (i : ℕ) (ls : List Layout) (k : ℕ) (xs : List Layout) → Gathered i ls k xs → length ls ≤ k → HaveField ls i
all_have i ls k xs h l = items_kinds (HasField i) (one_field i) ls k xs h l

pub ruleset fields_gathered = (no_fields_yet, more_fields, all_fields, all_have)

-- ---- one field of all arrays

array_length : (cs : Columns) (n i : ℕ) → HaveLength cs n → i < length (arrays_in cs) → len_of (get_or (arrays_in cs) i none) ≡ n
array_length no_columns n i h l = absurd (omega (arith, l))
array_length (column x a cs) n zero h l = h.1
array_length (column x a cs) n (suc i) h l = array_length cs n i h.2 (omega (arith, l))

field_length_of : (i : ℕ) (a : Layout) → IsSound a → AreRecords a → i < length (arrays_in (columns_in a)) → len_of (field_at i a) ≡ len_of a
field_length_of i (records cs n v) s r l = array_length cs n i s.0 l
field_length_of i (bools bs v) s r l = absurd r
field_length_of i (numbers k zs v) s r l = absurd r
field_length_of i (strings x vs bs v) s r l = absurd r
field_length_of i (constant k x n) s r l = absurd r
field_length_of i (dictionary c v f) s r l = absurd r
field_length_of i (fixed_lists e x n v) s r l = absurd r
field_length_of i (list_views e o x f v) s r l = absurd r

pub field_length : (i : ℕ) (a : Layout) → HasField i a → len_of (field_at i a) ≡ len_of a
field_length i a h = field_length_of i a h.sound h.records h.within

field_rows : (i : ℕ) (ls : List Layout) → HaveField ls i → rows_in_all (fields_at i ls) ≡ rows_in_all ls
field_rows i [] h = refl
field_rows i (a ∷ ls) h =
    rows_more (field_at i a) (fields_at i ls)
    ∙ (λ t. field_length i a (All-head (HasField i) a ls h) t + field_rows i ls (All-tail (HasField i) a ls h) t)
    ∙ sym (rows_more a ls)

pub field_count : (i : ℕ) (ls xs : List Layout) (n : ℕ) → n ≡ rows_in_all ls → HaveField ls i → xs ≡ fields_at i ls → n ≡ rows_in_all xs
field_count i ls xs n e h f = e ∙ sym (field_rows i ls h) ∙ sym (ap rows_in_all f)

pub field_joined : (i : ℕ) (ls xs : List Layout) (a : Layout) → xs ≡ fields_at i ls → IsJoined xs a → IsJoined (fields_at i ls) a
field_joined i ls xs a f h = subst (λ ys. IsJoined ys a) f h

pub ruleset field_made = (field_count, field_joined)

-- ---- all fields

push_before : (xs : List Layout) (b d : Layout) (i : ℕ) → i < length xs → get_or xs i d ≡ get_or (xs ++ b ∷ []) i d
push_before xs b d i l = sym (get_or_append_left xs (b ∷ []) d i l)

push_last : (xs : List Layout) (b d : Layout) → b ≡ get_or (xs ++ b ∷ []) (length xs) d
push_last xs b d = sym (ap (λ n. get_or (xs ++ b ∷ []) n d) (omega arith) ∙ get_or-append-add xs (b ∷ []) 0 d)

each_more : (P : ℕ → Layout → Type 0) (xs : List Layout) (b : Layout) (n : ℕ) → length xs ≡ n → ((i : ℕ) (d : Layout) → i < n → P i (get_or xs i d)) → P n b → (i : ℕ) (d : Layout) → i < n + 1 → P i (get_or (xs ++ b ∷ []) i d)
each_more P xs b n many h p i d l = ⊎_elim
    (λ before. subst (P i) (push_before xs b d i (subst (λ m. i < m) (sym many) before)) (h i d before))
    (λ last. subst (λ j. P j (get_or (xs ++ b ∷ []) j d)) (sym last) (subst (P n) (push_last xs b d ∙ ap (λ m. get_or (xs ++ b ∷ []) m d) many) p))
    (last_or_before i n l)

pub no_columns_yet : (ls : List Layout) → AreFields ls 0 []
no_columns_yet ls = record {
  count = refl;
  there = λ i l. absurd (omega (arith, l));
  sound = λ i d l. absurd (omega (arith, l));
  joined = λ i d l. absurd (omega (arith, l));
}

pub more_columns : (ls : List Layout) (n : ℕ) (b : Layout) (old new : List Layout) → AreFields ls n old → HaveField ls n → IsJoined (fields_at n ls) b → IsSound b → new ≡ old ++ b ∷ [] → AreFields ls (n + 1) new
more_columns ls n b old new h have joined sound made =
    subst (AreFields ls (n + 1)) (sym made) (record {
      count = length-append old (b ∷ []) ∙ ap (λ m. m + 1) h.count;
      there = λ i l. ⊎_elim (λ before. h.there i before) (λ last. subst (HaveField ls) (sym last) have) (last_or_before i n l);
      sound = each_more (λ i a. IsSound a) old b n h.count h.sound sound;
      joined = each_more (λ i a. IsJoined (fields_at i ls) a) old b n h.count h.joined joined;
    })

pub all_columns : (ls : List Layout) (n i : ℕ) (xs : List Layout) → AreFields ls i xs → i ≡ n → AreFields ls n xs
all_columns ls n i xs h e = subst (λ m. AreFields ls m xs) e h

pub ruleset fields_made = (no_columns_yet, more_columns, all_columns)

-- ---- types of fields

abbrev type_in : Fields → ℕ → LogicalType
type_in no_fields i = boolean_type non_nullable
type_in (field x k fs) zero = k
type_in (field x k fs) (suc i) = type_in fs i

abbrev fields_in : LogicalType → Fields
fields_in (struct fs n) = fs
fields_in k = no_fields

abbrev field_count_of : Fields → ℕ
field_count_of no_fields = 0
field_count_of (field x k fs) = suc (field_count_of fs)

type_of_array : (cs : Columns) (i : ℕ) → i < length (arrays_in cs) → type_in (fields_of cs) i ≡ array_type_of (get_or (arrays_in cs) i none)
type_of_array no_columns i l = absurd (omega (arith, l))
type_of_array (column x a cs) zero l = refl
type_of_array (column x a cs) (suc i) l = type_of_array cs i (omega (arith, l))

arrays_counted : (cs : Columns) → length (arrays_in cs) ≡ field_count_of (fields_of cs)
arrays_counted no_columns = refl
arrays_counted (column x a cs) = ap suc (arrays_counted cs)

fields_of_records : (a : Layout) → AreRecords a → fields_in (array_type_of a) ≡ fields_of (columns_in a)
fields_of_records (records cs n v) r = refl
fields_of_records (bools bs v) r = absurd r
fields_of_records (numbers k zs v) r = absurd r
fields_of_records (strings x vs bs v) r = absurd r
fields_of_records (constant k x n) r = absurd r
fields_of_records (dictionary c v f) r = absurd r
fields_of_records (fixed_lists e x n v) r = absurd r
fields_of_records (list_views e o x f v) r = absurd r

field_type : (i : ℕ) (a : Layout) (k : LogicalType) → HasField i a → array_type_of a ≡ k → array_type_of (field_at i a) ≡ type_in (fields_in k) i
field_type i a k h e =
    sym (type_of_array (columns_in a) i h.within) ∙ ap (λ fs. type_in fs i) (sym (fields_of_records a h.records) ∙ ap fields_in e)

field_types : (i : ℕ) (ls : List Layout) (k : LogicalType) → HaveField ls i → All (λ a. array_type_of a ≡ k) ls → All (λ a. array_type_of a ≡ type_in (fields_in k) i) (fields_at i ls)
field_types i ls k have same = All-map (λ a. array_type_of a ≡ type_in (fields_in k) i) (field_at i) ls (λ j d l. field_type i (get_or ls j d) k (have j d l) (same j d l))

-- the types of columns are those of the fields
types_by_place : (xs : List (List ℕ)) (fs gs : List Layout) → length gs ≡ length fs → ((i : ℕ) → i < length fs → array_type_of (get_or gs i none) ≡ array_type_of (get_or fs i none)) → fields_of (columns_of xs gs) ≡ fields_of (columns_of xs fs)
types_by_place [] [] [] e h = refl
types_by_place (x ∷ xs) [] [] e h = refl
types_by_place xs (f ∷ fs) [] e h = absurd (omega (arith, e))
types_by_place xs [] (g ∷ gs) e h = absurd (omega (arith, e))
types_by_place [] (f ∷ fs) (g ∷ gs) e h = λ t. field [] (h 0 (omega arith) t) (types_by_place [] fs gs (omega (arith, e)) (λ i l. h (suc i) (omega (arith, l))) t)
types_by_place (x ∷ xs) (f ∷ fs) (g ∷ gs) e h = λ t. field x (h 0 (omega arith) t) (types_by_place xs fs gs (omega (arith, e)) (λ i l. h (suc i) (omega (arith, l))) t)

plain_by_place : (xs : List (List ℕ)) (gs : List Layout) → ((i : ℕ) → i < length gs → IsPlainLayout (get_or gs i none)) → ArePlainLayouts (columns_of xs gs)
plain_by_place [] [] h = tt
plain_by_place (x ∷ xs) [] h = tt
plain_by_place [] (g ∷ gs) h = (h 0 (omega arith), plain_by_place [] gs (λ i l. h (suc i) (omega (arith, l))))
plain_by_place (x ∷ xs) (g ∷ gs) h = (h 0 (omega arith), plain_by_place xs gs (λ i l. h (suc i) (omega (arith, l))))

-- ---- rows of struct arrays

row_by_place : (xs : List (List ℕ)) (gs : List Layout) (cs : Columns) (p j : ℕ) → length gs ≡ length (arrays_in cs) → ((i : ℕ) → i < length gs → content_at (get_or gs i none) p ≡ content_at (get_or (arrays_in cs) i none) j) → row_at (columns_of xs gs) p ≡ row_at cs j
row_by_place [] [] no_columns p j e h = refl
row_by_place (x ∷ xs) [] no_columns p j e h = refl
row_by_place xs [] (column y a cs) p j e h = absurd (omega (arith, e))
row_by_place xs (g ∷ gs) no_columns p j e h = absurd (omega (arith, e))
row_by_place [] (g ∷ gs) (column y a cs) p j e h = λ t. first (h 0 (omega arith) t) (row_by_place [] gs cs p j (omega (arith, e)) (λ i l. h (suc i) (omega (arith, l))) t)
row_by_place (x ∷ xs) (g ∷ gs) (column y a cs) p j e h = λ t. first (h 0 (omega arith) t) (row_by_place xs gs cs p j (omega (arith, e)) (λ i l. h (suc i) (omega (arith, l))) t)

record_content : (a : Layout) (i : ℕ) → AreRecords a → content_at a i ≡ cond (is_valid (valid_in a) i) (tuple (row_at (columns_in a) i)) null
record_content (records cs n v) i r = refl
record_content (bools bs v) i r = absurd r
record_content (numbers k zs v) i r = absurd r
record_content (strings x vs bs v) i r = absurd r
record_content (constant k x n) i r = absurd r
record_content (dictionary c v f) i r = absurd r
record_content (fixed_lists e x n v) i r = absurd r
record_content (list_views e o x f v) i r = absurd r

record_kind : (a : Layout) → AreRecords a → array_type_of a ≡ struct (fields_of (columns_in a)) (nullability_by (valid_in a))
record_kind (records cs n v) r = refl
record_kind (bools bs v) r = absurd r
record_kind (numbers k zs v) r = absurd r
record_kind (strings x vs bs v) r = absurd r
record_kind (constant k x n) r = absurd r
record_kind (dictionary c v f) r = absurd r
record_kind (fixed_lists e x n v) r = absurd r
record_kind (list_views e o x f v) r = absurd r

-- ---- the whole

column_of : (ls : List Layout) (k : LogicalType) (n : ℕ) (gs : List Layout) (j : ℕ) → AreFields ls n gs → All (λ a. array_type_of a ≡ k) ls → j < n → IsColumn (type_in (fields_in k) j) (fields_at j ls) (get_or gs j none)
column_of ls k n gs j h same l = (h.joined j none l).column (type_in (fields_in k) j) (field_types j ls k (h.there j l) same)

column_length : (ls : List Layout) (n : ℕ) (gs : List Layout) (j : ℕ) (d : Layout) → AreFields ls n gs → j < n → len_of (get_or gs j d) ≡ rows_in_all ls
column_length ls n gs j d h l = (h.joined j d l).count ∙ field_rows j ls (h.there j l)

column_content : (ls : List Layout) (k : LogicalType) (n : ℕ) (gs : List Layout) (j p : ℕ) (a : Layout) (i : ℕ) → AreFields ls n gs → All (λ b. array_type_of b ≡ k) ls → j < n → IsAt ls p a i → content_at (get_or gs j none) p ≡ content_at (field_at j a) i
column_content ls k n gs j p a i h same l at =
    let have = h.there j l in
    let column = column_of ls k n gs j h same l in
    let small : p < len_of (get_or gs j none) = subst (λ m. p < m) (sym (column_length ls n gs j none h l)) (at_below ls p a i at) in
    let within : i < len_of (field_at j a) = subst (λ m. i < m) (sym (field_length j a (at_one (HasField j) ls p a i have at))) (at_within ls p a i at) in
    sym (row_at_position (get_or gs j none) p null small)
    ∙ ap (λ rows. get_or rows p null) (column.rows ∙ flat_map-map rows_of (field_at j) ls)
    ∙ item_at (λ b. rows_of (field_at j b)) ls p a i null (λ q d m. row_count (field_at j (get_or ls q d)) ∙ field_length j (get_or ls q d) (have q d m)) at
    ∙ row_at_position (field_at j a) i null within

fields_alike : (a : Layout) (k : LogicalType) → AreRecords a → array_type_of a ≡ k → fields_of (columns_in a) ≡ fields_in k
fields_alike a k r e = sym (fields_of_records a r) ∙ ap fields_in e

arrays_alike : (a : Layout) (k : LogicalType) → AreRecords a → array_type_of a ≡ k → length (arrays_in (columns_in a)) ≡ field_count_of (fields_in k)
arrays_alike a k r e = arrays_counted (columns_in a) ∙ ap field_count_of (fields_alike a k r e)

pub records_fit : (ls : List Layout) (xs : List (List ℕ)) (own gs : List Layout) (v : Valid) (n : ℕ) → AreFields ls (length own) gs → IsEndToEnd (validities ls) v → n ≡ rows_in_all ls → IsSound (records (columns_of xs gs) n v)
records_fit ls xs own gs v n h made e = parts_sound xs gs n v
    (subst (HasLength v) (lengths_joined ls ∙ sym e) made.fits)
    (λ i d l. h.sound i d (subst (λ m. i < m) h.count l))
    (λ i d l. column_length ls (length own) gs i d h (subst (λ m. i < m) h.count l) ∙ sym e)

pub fields_named : (ls : List Layout) (xs : List (List ℕ)) (own gs : List Layout) → length xs ≡ length own → AreFields ls (length own) gs → length xs ≡ length gs
fields_named ls xs own gs e h = e ∙ sym h.count

-- the first array, of names and arrays
pub record IsFirst (ls : List Layout) (a : Layout) (xs : List (List ℕ)) (own : List Layout) : Type 0 where
  pub some : 0 < length ls
  pub first : a ≡ get_or ls 0 a
  pub records : AreRecords a
  pub fields : own ≡ arrays_in (columns_in a)
  pub types : fields_of (columns_of xs own) ≡ fields_of (columns_in a)

types_joined : (ls : List Layout) (a : Layout) (xs : List (List ℕ)) (own gs : List Layout) (k : LogicalType) → IsFirst ls a xs own → AreFields ls (length own) gs → All (λ b. array_type_of b ≡ k) ls → fields_of (columns_of xs gs) ≡ fields_in k
types_joined ls a xs own gs k f h same =
    let kind : array_type_of a ≡ k = ap array_type_of f.first ∙ same 0 a f.some in
    types_by_place xs own gs h.count (λ i l.
    (column_of ls k (length own) gs i h same l).kind
    ∙ sym (field_type i a k (subst (HasField i) (sym f.first) (h.there i l 0 a f.some)) kind)
    ∙ ap (λ bs. array_type_of (get_or bs i none)) (sym f.fields))
    ∙ f.types ∙ fields_alike a k f.records kind

-- ---- whether all are struct arrays

pub no_records : (ls : List Layout) → All AreRecords (take 0 ls)
no_records ls = All-nil AreRecords

pub more_records : (ls : List Layout) (i : ℕ) (a : Layout) → All AreRecords (take i ls) → i < length ls → a ≡ get_or ls i a → AreRecords a → All AreRecords (take (i + 1) ls)
more_records ls i a h l e r = subst (All AreRecords) (sym (take_more ls i a l ∙ ap (λ y. take i ls ++ y ∷ []) (sym e))) (All-append AreRecords (take i ls) (a ∷ []) h (All-cons AreRecords a [] r (All-nil AreRecords)))

pub all_records : (ls : List Layout) (i : ℕ) → All AreRecords (take i ls) → length ls ≤ i → All AreRecords ls
all_records ls i h l = subst (All AreRecords) (take_all i ls l) h

pub ruleset records_seen = (no_records, more_records, all_records)

-- ---- the struct arrays

records_column : (ls : List Layout) (a : Layout) (xs : List (List ℕ)) (own gs : List Layout) (v : Valid) (n : ℕ) (k : LogicalType) → IsFirst ls a xs own → All AreRecords ls → AreFields ls (length own) gs → IsEndToEnd (validities ls) v → n ≡ rows_in_all ls → All (λ b. array_type_of b ≡ k) ls → IsColumn k ls (records (columns_of xs gs) n v)
records_column ls a xs own gs v n k f recs h made e same =
    let types = types_joined ls a xs own gs k f h same in
    record {
      kind = kind_by_first (λ m. struct (fields_of (columns_of xs gs)) m) ls v k f.some (λ m. refl) (λ i d l.
          record_kind (get_or ls i d) (recs i d l)
          ∙ ap (λ fs. struct fs (nullability_by (valid_in (get_or ls i d)))) (fields_alike (get_or ls i d) k (recs i d l) (same i d l) ∙ sym types)) made same;
      rows = rows_joined ls (records (columns_of xs gs) n v) e (λ p b i at.
          let r = at_one AreRecords ls p b i recs at in
          let kind = at_one (λ c. array_type_of c ≡ k) ls p b i same at in
          let own_kind : array_type_of a ≡ k = ap array_type_of f.first ∙ same 0 a f.some in
          let many : length gs ≡ length (arrays_in (columns_in b)) = h.count ∙ ap length f.fields ∙ arrays_alike a k f.records own_kind ∙ sym (arrays_alike b k r kind) in
          (λ t. cond (valid_at_place ls v p b i (at_below ls p b i at) made at t) (tuple (row_by_place xs gs (columns_in b) p i many (λ j l. column_content ls k (length own) gs j p b i h same (subst (λ m. j < m) h.count l) at) t)) null)
          ∙ sym (record_content b i r));
      plain = plain_by_place xs gs (λ i l. (column_of ls k (length own) gs i h same (subst (λ m. i < m) h.count l)).plain);
    }

pub records_joined : (ls : List Layout) (a : Layout) (xs : List (List ℕ)) (own gs : List Layout) (m : ℕ) (w v : Valid) (n : ℕ) (r : Layout) → 0 < length ls → a ≡ get_or ls 0 a → a ≡ records (columns_of xs own) m w → All AreRecords ls → AreFields ls (length own) gs → IsEndToEnd (validities ls) v → n ≡ rows_in_all ls → r ≡ records (columns_of xs gs) n v → IsJoined ls r
records_joined ls a xs own gs m w v n r l e is recs h made count made_so =
    let f : IsFirst ls a xs own = record {
      some = l;
      first = e;
      records = subst AreRecords (sym is) tt;
      fields = arrays_of_parts a xs own m w is;
      types = sym (ap (λ b. fields_of (columns_in b)) is);
    } in
    record {
      count = ap len_of made_so ∙ count;
      column = λ k same. subst (IsColumn k ls) (sym made_so) (records_column ls a xs own gs v n k f recs h made count same);
    }

pub ruleset joined = (records_fit, fields_named, records_joined)

-- ---- struct arrays of one type

pub joined_made : (ls xs : List Layout) (k : LogicalType) (a : Layout) → AreOfType ls k → xs ≡ ls → IsJoined xs a → IsConcatenation ls a
joined_made ls xs k a t e h =
    let column = (subst (λ ys. IsJoined ys a) e h).column k t.kinds in
    record { kinds = subst (AreOfType ls) (sym column.kind) t; rows = column.rows }

pub joined_plain : (ls xs : List Layout) (k : LogicalType) (a : Layout) → AreOfType ls k → xs ≡ ls → IsJoined xs a → IsPlainLayout a
joined_plain ls xs k a t e h = ((subst (λ ys. IsJoined ys a) e h).column k t.kinds).plain

pub shared_count : (ls xs : List Layout) (n : ℕ) → xs ≡ ls → n ≡ rows_in_all ls → n ≡ rows_in_all xs
shared_count ls xs n e h = h ∙ sym (ap rows_in_all e)

pub ruleset whole = (joined_made, joined_plain, shared_count, uncounted)
