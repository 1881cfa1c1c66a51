-- Strings and bytes by views.
use Rattle.std.proofs.Common.{◌≡◌, ◌<◌, ◌≤◌, ◌+◌, ℕ, zero, suc, pos, Bool, true, false, List, [], ◌∷◌, ◌++◌, length, map, take, drop, get_or, set, cond, leb, inl, inr, Option, Bor, refl, sym, ap, subst, ◌∙◌, arith}
use Rattle.std.specs.List.{flat_map, sum, All}
use Rattle.std.specs.Int.{IsNonNegative}
use Rattle.std.proofs.lemmas.Bool.{le-leb, cases_eq, cases_lt, lt-leb}
use Rattle.std.proofs.lemmas.Bool.Decides.{leb_tells}
use Rattle.std.proofs.lemmas.List.{append-nil, length-map, length-take, length-drop, get_or-map, get_or_past, take_at, length-set, get_or-set_same, get_or-set_other}
use Rattle.std.proofs.lemmas.List.Concat.{flat_map-append, length-flat_map}
use Rattle.std.proofs.lemmas.List.Elements.{All-nil, All-cons}
use Rattle.std.proofs.lemmas.List.Sums.{sum-map, sum_by-cons}
use Rattle.std.proofs.lemmas.Str.{IsUtf8-nil}
use Rattle.std.proofs.Math.Seq.{drop-append-add}
use Rattle.vortex_model.specs.LogicalType.{Nullability, non_nullable, nullable, utf8, binary}
use Rattle.vortex_model.specs.Content.{null, content_of, Raw, raw_null, raw_text, raw_byte_string}
use Rattle.vortex_model.specs.Valid.{valid}
use Rattle.vortex_model.proofs.Tests.{has_so}
use Rattle.vortex_scalar_value.specs.View.{raw_at}
use Rattle.vortex_scalar_value.specs.declared.scalar_value.ScalarValue.{ScalarValue}
use Rattle.vortex_arrays_view.specs.declared.error.ArrayError.{ArrayError}
use Rattle.vortex_arrays_view.specs.declared.error.ArrayError.TheVariants as error
use Rattle.vortex_arrays_view.specs.Views.{size_of, index_of, offset_of, inlined_of, value_of, HasValue}
use Rattle.vortex_arrays_view.specs.Made.{short_view, long_view}
use Rattle.vortex_arrays_view.specs.Lengths.{counts_of, AddUp}
use Rattle.vortex_arrays_view.specs.Cuttings.{end_of, value_in}
use Rattle.vortex_arrays_view.specs.Built.{IsBuilt, IsLimitFault, IsBuildFault, limit_of}
use Rattle.vortex_arrays_view.proofs.Made.{views_read_back}
use Rattle.vortex_arrays_model.specs.Layout.{strings, Strings, texts, byte_strings, Valid, is_valid, type_of_strings, string_content, IsString, HasLength}
use Rattle.vortex_arrays_builder.specs.Plain.{is_held, is_there, MarksNulls, IsPlain}
use Rattle.vortex_arrays_builder.specs.Strings.{bytes_in, buffered, buffered_len, AreViewsOf, IsStringsFault}
use Rattle.vortex_arrays_builder.proofs.ItemLemmas.{taken}
use Rattle.vortex_arrays_builder.proofs.TooLargeLemmas.{no_memory, string_fault, strings_fit}

abbrev Value : Type 0
Value = Option (Bor ScalarValue)

-- ---- one more value

pub bytes_more : (vs : List Value) (i : ℕ) (v : Value) (old new piece : List ℕ) → old ≡ flat_map buffered (map raw_at (take i vs)) → i < length vs → v ≡ get_or vs i v → piece ≡ buffered (raw_at v) → new ≡ old ++ piece → new ≡ flat_map buffered (map raw_at (take (i + 1) vs))
bytes_more vs i v old new piece h l e p n =
    n ∙ (λ j. h j ++ p j)
    ∙ sym (ap (flat_map buffered) (taken vs i v l e) ∙ flat_map-append buffered (map raw_at (take i vs)) (raw_at v ∷ []) ∙ ap (λ xs. flat_map buffered (map raw_at (take i vs)) ++ xs) (append-nil (buffered (raw_at v))))

-- ---- the values that were built into buffers

value_of_row : (rs : List Raw) (i : ℕ) → i < length rs → value_in (flat_map buffered rs) (map buffered_len rs) i ≡ buffered (get_or rs i raw_null)
value_of_row [] i l = absurd (omega arith)
value_of_row (r ∷ rs) zero l = take_at (buffered r) (flat_map buffered rs) (buffered_len r) refl
value_of_row (r ∷ rs) (suc i) l =
    ap (λ n. take (get_or (map buffered_len rs) i 0) (drop n (buffered r ++ flat_map buffered rs))) (sum_by-cons (λ x. x) (buffered_len r) (take i (map buffered_len rs)))
    ∙ ap (take (get_or (map buffered_len rs) i 0)) (drop-append-add (buffered r) (flat_map buffered rs) (end_of (map buffered_len rs) i))
    ∙ value_of_row rs i (omega (arith, l))

pub counts_back : (ns : List ℕ) → counts_of (map pos ns) ≡ ns
counts_back [] = refl
counts_back (n ∷ ns) = ap (λ xs. n ∷ xs) (counts_back ns)

all_natural : (ns : List ℕ) → All IsNonNegative (map pos ns)
all_natural [] = All-nil IsNonNegative
all_natural (n ∷ ns) = All-cons IsNonNegative (pos n) (map pos ns) tt (all_natural ns)

add_up : (rs : List Raw) → AddUp (map pos (map buffered_len rs)) (length (flat_map buffered rs))
add_up rs = record {
  counts = all_natural (map buffered_len rs);
  sums = ap sum (counts_back (map buffered_len rs)) ∙ sum-map buffered_len rs ∙ sym (length-flat_map buffered rs);
}

-- ---- views

short_reads : (v : List ℕ) (buffers : List (List ℕ)) → leb (length v) 12 ≡ true → HasValue (short_view v) buffers × (value_of (short_view v) buffers ≡ v)
short_reads v buffers t =
    let s : length v ≤ 12 = elim (leb_tells (length v) 12) [ inl y ↦ y.1 | inr y ↦ absurd (cc (sym y.0 ∙ t)) ] in
    subst (λ b. HasValue b buffers × (value_of b buffers ≡ v)) (ap (λ (b : Bool). cond b (short_view v) (long_view (length v) (take 4 v) 0 0)) t)
    (views_read_back v buffers 0 0 (omega arith) (omega arith) (omega arith) (λ m. absurd (omega arith)))

view_reads : (r : Raw) (t : Bool) (new old : List ℕ) (buffers : List (List ℕ)) → leb (length (bytes_in r)) 12 ≡ t → new ≡ cond t (short_view (bytes_in r)) old → HasValue old buffers → value_of old buffers ≡ buffered r → HasValue new buffers × (value_of new buffers ≡ bytes_in r)
view_reads r true new old buffers t n h v = subst (λ b. HasValue b buffers × (value_of b buffers ≡ bytes_in r)) (sym n) (short_reads (bytes_in r) buffers t)
view_reads r false new old buffers t n h v =
    subst (λ b. HasValue b buffers × (value_of b buffers ≡ bytes_in r)) (sym n) (h, v ∙ ap (λ (b : Bool). cond b [] (bytes_in r)) t)

pub views_made : (rs : List Raw) (bytes lengths : List ℕ) (limit : ℕ) (buffers old new : List (List ℕ)) → bytes ≡ flat_map buffered rs → lengths ≡ map buffered_len rs → IsBuilt bytes (counts_of (map pos lengths)) 0 limit buffers old → length new ≡ length old → ((i : ℕ) → i < length rs → get_or new i [] ≡ cond (leb (length (bytes_in (get_or rs i raw_null))) 12) (short_view (bytes_in (get_or rs i raw_null))) (get_or old i [])) → AreViewsOf rs buffers new
views_made rs bytes lengths limit buffers old new b l h n e =
    let same : counts_of (map pos lengths) ≡ map buffered_len rs = counts_back lengths ∙ l in
    let built : IsBuilt (flat_map buffered rs) (map buffered_len rs) 0 limit buffers old = subst (λ ns. IsBuilt (flat_map buffered rs) ns 0 limit buffers old) same (subst (λ bs. IsBuilt bs (counts_of (map pos lengths)) 0 limit buffers old) b h) in
    let row : (i : ℕ) → i < length rs → HasValue (get_or new i []) buffers × (value_of (get_or new i []) buffers ≡ bytes_in (get_or rs i raw_null)) = λ i k.
    let m : i < length (map buffered_len rs) = subst (λ x. i < x) (sym (length-map rs buffered_len)) k in
    let each = built.viewed.each i m in
    let read = each.reads [] refl in
    view_reads (get_or rs i raw_null) (leb (length (bytes_in (get_or rs i raw_null))) 12) (get_or new i []) (get_or old i []) buffers refl (e i k) read.0 (read.1 ∙ value_of_row rs i k) in
    record {
      count = n ∙ built.viewed.count ∙ length-map rs buffered_len;
      value = λ i k. let p = row i k in p.0;
      reads = λ i k. let p = row i k in p.1;
    }

pub strings_fault : (e : ArrayError) (rs : List Raw) (bytes lengths : List ℕ) → bytes ≡ flat_map buffered rs → lengths ≡ map buffered_len rs → IsBuildFault e bytes (map pos lengths) 0 (limit_of 2147483647) → IsStringsFault e rs
strings_fault error.Memory rs bytes lengths b l h = tt
strings_fault error.LengthMismatch rs bytes lengths b l h =
    absurd (h (subst (λ bs. AddUp (map pos lengths) (length bs)) (sym b) (subst (λ ns. AddUp (map pos ns) (length (flat_map buffered rs))) (sym l) (add_up rs))))
strings_fault error.Total rs bytes lengths b l h =
    subst (λ ns. IsLimitFault error.Total (flat_map buffered rs) ns 0 2147483647) (counts_back lengths ∙ l)
    (subst (λ bs. IsLimitFault error.Total bs (counts_of (map pos lengths)) 0 2147483647) b h.1)
strings_fault e rs bytes lengths b l h = absurd h

-- a value in views and buffers is no longer than a buffer
part_len : (n m : ℕ) (bs : List ℕ) → length (take n (drop m bs)) ≤ length bs
part_len n m bs = omega (arith, length-take n (drop m bs), length-drop m bs)

within_limit : (limit : ℕ) (buffers : List (List ℕ)) (i : ℕ) → All (λ b. length b ≤ limit) buffers → length (get_or buffers i []) ≤ limit
within_limit limit [] i h = omega arith
within_limit limit (b ∷ buffers) i h = elim (cases_lt i (length (b ∷ buffers))) [
  | inl l ↦ h i [] l
  | inr g ↦ subst (λ xs. length xs ≤ limit) (sym (get_or_past (b ∷ buffers) i [] g)) (omega arith)
]

abbrev either_value : List ℕ → List (List ℕ) → Bool → List ℕ
either_value b buffers t = cond t (inlined_of b) (take (size_of b) (drop (offset_of b) (get_or buffers (index_of b) [])))

value_len : (b : List ℕ) (buffers : List (List ℕ)) → All (λ x. length x ≤ 2147483647) buffers → length (value_of b buffers) ≤ 2147483647
value_len b buffers h = elim (leb_tells (size_of b) 12) [
  | inl y ↦ subst (λ (t : Bool). length (either_value b buffers t) ≤ 2147483647) (sym y.0) (let m = y.1 in let n = length-take (size_of b) (drop 4 b) in omega (arith, m, n))
  | inr y ↦ subst (λ (t : Bool). length (either_value b buffers t) ≤ 2147483647) (sym y.0)
      (let m = part_len (size_of b) (offset_of b) (get_or buffers (index_of b) []) in let n = within_limit 2147483647 buffers (index_of b) h in omega (arith, m, n))
]

buffered_short : (r : Raw) → buffered_len r ≤ length (bytes_in r)
buffered_short r = elim (leb_tells (length (bytes_in r)) 12) [
  | inl y ↦ subst (λ (t : Bool). length (cond t [] (bytes_in r)) ≤ length (bytes_in r)) (sym y.0) (omega arith)
  | inr y ↦ subst (λ (t : Bool). length (cond t [] (bytes_in r)) ≤ length (bytes_in r)) (sym y.0) (omega arith)
]

-- values that were built are not too large
pub not_large : (rs : List Raw) (bytes lengths : List ℕ) (limit : ℕ) (buffers old new : List (List ℕ)) → bytes ≡ flat_map buffered rs → lengths ≡ map buffered_len rs → limit ≡ 2147483647 → IsBuilt bytes (counts_of (map pos lengths)) 0 limit buffers old → AreViewsOf rs buffers new → ¬ IsStringsFault error.Total rs
not_large rs bytes lengths limit buffers old new b l m h v bad =
    let same : counts_of (map pos lengths) ≡ map buffered_len rs = counts_back lengths ∙ l in
    let built : IsBuilt (flat_map buffered rs) (map buffered_len rs) 0 2147483647 buffers old = subst (λ n. IsBuilt (flat_map buffered rs) (map buffered_len rs) 0 n buffers old) m (subst (λ ns. IsBuilt (flat_map buffered rs) ns 0 limit buffers old) same (subst (λ bs. IsBuilt bs (counts_of (map pos lengths)) 0 limit buffers old) b h)) in
    elim bad [
      | inl x ↦
          let k = x.0 in
          let some : k < length rs = subst (λ n. k < n) (length-map rs buffered_len) x.2 in
          let r = get_or rs k raw_null in
          let is : x.1 ≡ buffered_len r = sym x.3 ∙ get_or-map buffered_len rs k raw_null x.1 some in
          let view = get_or new k [] in
          let read : length (value_of view buffers) ≤ 2147483647 = value_len view buffers built.fewest.cutting.within in
          let own : length (value_of view buffers) ≡ length (bytes_in r) = ap length (v.reads k some) in
          let less = buffered_short r in
          let past = x.4 in
          omega (arith, is, read, own, less, past)
      | inr many ↦ let past = many buffers built.fewest.cutting in let few = built.indices in omega (arith, past, few)
    ]

pub memory_fault : (e : ArrayError) (rs : List Raw) → e ≡ error.Memory → IsStringsFault e rs
memory_fault e rs h = subst (λ x. IsStringsFault x rs) (sym h) tt

pub ruleset viewed = (strings_fault, memory_fault)

-- ---- the array

held_string : (s : Strings) (n : Nullability) (r : Raw) → is_held (type_of_strings s n) r ≡ true → IsString s (bytes_in r)
held_string texts n raw_null h = IsUtf8-nil
held_string texts n (raw_text bs) h = has_so (utf8 n) (raw_text bs) h
held_string texts n r h = absurd (cc h)
held_string byte_strings n raw_null h = has_so (binary n) (raw_byte_string []) refl
held_string byte_strings n (raw_byte_string bs) h = has_so (binary n) (raw_byte_string bs) h
held_string byte_strings n r h = absurd (cc h)

string_row : (s : Strings) (n : Nullability) (r : Raw) (b : Bool) (bs : List ℕ) → b ≡ is_there n r → bs ≡ bytes_in r → valid (type_of_strings s n) r ≡ true → cond b (string_content s bs) null ≡ content_of r
string_row texts nullable raw_null b bs e f h = ap (λ t. cond t (string_content texts bs) null) e
string_row texts non_nullable raw_null b bs e f h = absurd (cc h)
string_row texts nullable (raw_text x) b bs e f h = λ t. cond (e t) (string_content texts (f t)) null
string_row texts non_nullable (raw_text x) b bs e f h = λ t. cond (e t) (string_content texts (f t)) null
string_row texts n r b bs e f h = absurd (cc h)
string_row byte_strings nullable raw_null b bs e f h = ap (λ t. cond t (string_content byte_strings bs) null) e
string_row byte_strings non_nullable raw_null b bs e f h = absurd (cc h)
string_row byte_strings nullable (raw_byte_string x) b bs e f h = λ t. cond (e t) (string_content byte_strings (f t)) null
string_row byte_strings non_nullable (raw_byte_string x) b bs e f h = λ t. cond (e t) (string_content byte_strings (f t)) null
string_row byte_strings n r b bs e f h = absurd (cc h)

pub plain_strings : (s : Strings) (n : Nullability) (rs : List Raw) (v : Valid) (views buffers : List (List ℕ)) → All (λ r. is_held (type_of_strings s n) r ≡ true) rs → AreViewsOf rs buffers views → MarksNulls n rs v → IsPlain (type_of_strings s n) rs (strings s views buffers v)
plain_strings s n rs v views buffers h w p = record {
  sound = (
    (λ i l t.
        let k : i < length rs = subst (λ m. i < m) w.count l in
        (w.value i k, subst (IsString s) (sym (w.reads i k)) (held_string s n (get_or rs i raw_null) (h i raw_null k)))),
    subst (HasLength v) (sym w.count) p.fits,
  );
  len = w.count;
  kind = ap (type_of_strings s) p.nullability;
  layout = tt;
  content = λ i l c. string_row s n (get_or rs i raw_null) (is_valid v i) (value_of (get_or views i []) buffers) (p.bits i l) (w.reads i l) c;
}

pub ruleset plain = (plain_strings, no_memory, string_fault, strings_fit)

-- ---- views of short values

-- the first n views are those of short values, where the values are short; the others are unchanged
pub record Inlined (rs : List Raw) (n : ℕ) (old new : List (List ℕ)) : Type 0 where
  pub count : length new ≡ length old
  pub done : (i : ℕ) → i < n → get_or new i [] ≡ cond (leb (length (bytes_in (get_or rs i raw_null))) 12) (short_view (bytes_in (get_or rs i raw_null))) (get_or old i [])
  pub rest : (i : ℕ) → n ≤ i → get_or new i [] ≡ get_or old i []

pub inlined_none : (rs : List Raw) (old : List (List ℕ)) → Inlined rs 0 old old
inlined_none rs old = record { count = refl; done = λ i l. absurd (omega arith); rest = λ i l. refl }

abbrev shortened : List Raw → List (List ℕ) → ℕ → List ℕ
shortened rs old i = cond (leb (length (bytes_in (get_or rs i raw_null))) 12) (short_view (bytes_in (get_or rs i raw_null))) (get_or old i [])

-- the view of a short value, and of a long one
pub inlined_short : (rs : List Raw) (n : ℕ) (old new next : List (List ℕ)) (value view : List ℕ) → Inlined rs n old new → n < length new → value ≡ bytes_in (get_or rs n raw_null) → length value ≤ 12 → view ≡ short_view value → next ≡ set new n view → Inlined rs (n + 1) old next
inlined_short rs n old new next value view h l e m w s =
    let short : shortened rs old n ≡ view =
    ap (λ (b : Bool). cond b (short_view (bytes_in (get_or rs n raw_null))) (get_or old n [])) (le-leb (length (bytes_in (get_or rs n raw_null))) 12 (subst (λ x. length x ≤ 12) e m))
    ∙ ap short_view (sym e) ∙ sym w in
    subst (Inlined rs (n + 1) old) (sym s) (record {
      count = length-set new n view ∙ h.count;
      done = λ i k. elim (cases_eq i n) [
        | inl same ↦ ap (λ j. get_or (set new n view) j []) same ∙ get_or-set_same new n view [] l ∙ sym short ∙ ap (shortened rs old) (sym same)
        | inr other ↦ get_or-set_other new n i view [] other ∙ h.done i (omega (arith, other))
      ];
      rest = λ i k. get_or-set_other new n i view [] (λ same. absurd (omega arith)) ∙ h.rest i (omega arith);
    })

pub inlined_long : (rs : List Raw) (n : ℕ) (old new : List (List ℕ)) (value : List ℕ) → Inlined rs n old new → value ≡ bytes_in (get_or rs n raw_null) → 12 < length value → Inlined rs (n + 1) old new
inlined_long rs n old new value h e m =
    let long : shortened rs old n ≡ get_or old n [] =
    ap (λ (b : Bool). cond b (short_view (bytes_in (get_or rs n raw_null))) (get_or old n [])) (lt-leb (length (bytes_in (get_or rs n raw_null))) 12 (subst (λ x. 12 < length x) e m)) in
    record {
      count = h.count;
      done = λ i k. elim (cases_eq i n) [
        | inl same ↦ h.rest i (omega (arith, same)) ∙ ap (λ j. get_or old j []) same ∙ sym long ∙ ap (shortened rs old) (sym same)
        | inr other ↦ h.done i (omega (arith, other))
      ];
      rest = λ i k. h.rest i (omega arith);
    }

-- the bytes of the value at an index
pub value_there : (vs : List Value) (i : ℕ) (v : Value) (value : List ℕ) → i < length vs → v ≡ get_or vs i v → value ≡ bytes_in (raw_at v) → value ≡ bytes_in (get_or (map raw_at vs) i raw_null)
value_there vs i v value l e h = h ∙ ap (λ x. bytes_in (raw_at x)) e ∙ ap bytes_in (sym (get_or-map raw_at vs i v raw_null l))

pub ruleset inlined = (inlined_none, inlined_short, inlined_long, value_there)
