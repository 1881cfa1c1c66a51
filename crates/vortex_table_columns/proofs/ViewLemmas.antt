-- Values by views into one buffer that grows at its end.
use Rattle.std.proofs.Common.{◌≡◌, ◌<◌, ◌≤◌, ◌+◌, ◌^◌, ℕ, suc, Bool, true, false, cond, leb, List, [], ◌∷◌, ◌++◌, length, get_or, take, drop, map, Option, Some, None, is_some, option_map, unwrap_or, IfSome, refl, sym, ap, subst, ◌∙◌, arith, inl, inr}
use Rattle.std.specs.List.{All}
use Rattle.std.proofs.lemmas.Bool.{cases_lt}
use Rattle.std.proofs.lemmas.List.{length-append, length-drop, length-map, get_or-map, map-append, drop-append-le, take-append-le, drop_at, take_all, take-append-drop}
use Rattle.std.proofs.lemmas.List.Elements.{All-nil, All-cons, All-append}
use Rattle.vortex_model.specs.LogicalType.{Nullability}
use Rattle.vortex_model.specs.Content.{Raw, raw_null}
use Rattle.vortex_arrays_view.specs.Views.{size_of, index_of, offset_of, value_of, HasValue}
use Rattle.vortex_arrays_view.specs.Made.{view_of}
use Rattle.vortex_arrays_view.specs.Laws.{LiesAt}
use Rattle.vortex_arrays_view.proofs.Made.{value_short, value_long, views_read_back}
use Rattle.vortex_arrays_model.specs.Layout.{Strings, strings, Valid, is_valid, HasLength, IsString, type_of_strings}
use Rattle.vortex_arrays_core.specs.RawRows.{raw_string}
use Rattle.vortex_table_columns.specs.Cells.{cell_raw, MarksCells, IsColumn}
use Rattle.vortex_table_columns.specs.Views.{values_of, AreValues}
use Rattle.vortex_table_columns.proofs.CellLemmas.{cell_at}

-- ---- more bytes at the end

abbrev ValueIn : Strings → List ℕ → List ℕ → Type 0
ValueIn s bytes v = HasValue v (bytes ∷ []) × IsString s (value_of v (bytes ∷ []))

zero_only : (i : ℕ) → i < 1 → i ≡ 0
zero_only i h = omega (arith, h)

same_value : (v bytes more : List ℕ) → HasValue v (bytes ∷ []) → value_of v ((bytes ++ more) ∷ []) ≡ value_of v (bytes ∷ [])
same_value v bytes more h = elim (cases_lt 12 (size_of v)) [
  | inl long ↦
      let zero : index_of v ≡ 0 = zero_only (index_of v) (h.there long) in
      let room : offset_of v + size_of v ≤ length bytes = subst (λ i. offset_of v + size_of v ≤ length (get_or (bytes ∷ []) i [])) zero (h.inside long) in
      value_long v ((bytes ++ more) ∷ []) long
      ∙ ap (λ i. take (size_of v) (drop (offset_of v) (get_or ((bytes ++ more) ∷ []) i []))) zero
      ∙ ap (take (size_of v)) (drop-append-le (offset_of v) bytes more (omega (arith, room)))
      ∙ take-append-le (size_of v) (drop (offset_of v) bytes) more (omega (arith, room, length-drop (offset_of v) bytes))
      ∙ sym (ap (λ i. take (size_of v) (drop (offset_of v) (get_or (bytes ∷ []) i []))) zero)
      ∙ sym (value_long v (bytes ∷ []) long)
  | inr short ↦ value_short v ((bytes ++ more) ∷ []) short ∙ sym (value_short v (bytes ∷ []) short)
]

still_there : (v bytes more : List ℕ) → HasValue v (bytes ∷ []) → HasValue v ((bytes ++ more) ∷ [])
still_there v bytes more h = record {
  there = λ long. h.there long;
  inside = λ long.
      let zero : index_of v ≡ 0 = zero_only (index_of v) (h.there long) in
      let room : offset_of v + size_of v ≤ length bytes = subst (λ i. offset_of v + size_of v ≤ length (get_or (bytes ∷ []) i [])) zero (h.inside long) in
      subst (λ i. offset_of v + size_of v ≤ length (get_or ((bytes ++ more) ∷ []) i [])) (sym zero) (omega (arith, room, length-append bytes more));
  prefix = λ long. h.prefix long ∙ ap (take 4) (sym (same_value v bytes more h));
}

still_value : (s : Strings) (bytes more v : List ℕ) → ValueIn s bytes v → ValueIn s (bytes ++ more) v
still_value s bytes more v h = (still_there v bytes more h.0, subst (IsString s) (sym (same_value v bytes more h.0)) h.1)

still_some : (s : Strings) (bytes more : List ℕ) (view : Option (List ℕ)) → IfSome view (ValueIn s bytes) → IfSome view (ValueIn s (bytes ++ more))
still_some s bytes more None h = tt
still_some s bytes more (Some v) h = still_value s bytes more v h

pub still_values : (s : Strings) (bytes more : List ℕ) (views : List (Option (List ℕ))) → AreValues s bytes views → AreValues s (bytes ++ more) views
still_values s bytes more views h = λ i d l. still_some s bytes more (get_or views i d) (h i d l)

same_one : (s : Strings) (bytes more : List ℕ) (view : Option (List ℕ)) → IfSome view (ValueIn s bytes) → option_map (λ v. value_of v ((bytes ++ more) ∷ [])) view ≡ option_map (λ v. value_of v (bytes ∷ [])) view
same_one s bytes more None h = refl
same_one s bytes more (Some v) h = ap Some (same_value v bytes more h.0)

pub same_values : (s : Strings) (bytes more : List ℕ) (views : List (Option (List ℕ))) → AreValues s bytes views → values_of (bytes ++ more) views ≡ values_of bytes views
same_values s bytes more [] h = refl
same_values s bytes more (view ∷ views) h =
    let first = same_one s bytes more view (h 0 None (omega arith)) in
    let rest = same_values s bytes more views (λ i d l. h (suc i) d (omega (arith, l))) in
    λ t. first t ∷ rest t

-- ---- one more cell

pub values_grow : (s : Strings) (bytes : List ℕ) (views : List (Option (List ℕ))) (view : Option (List ℕ)) → AreValues s bytes views → IfSome view (ValueIn s bytes) → AreValues s bytes (views ++ view ∷ [])
values_grow s bytes views view h one =
    All-append (λ x. IfSome x (ValueIn s bytes)) views (view ∷ []) h (All-cons (λ x. IfSome x (ValueIn s bytes)) view [] one (All-nil (λ x. IfSome x (ValueIn s bytes))))

pub values_push : (bytes : List ℕ) (views : List (Option (List ℕ))) (view : Option (List ℕ)) → values_of bytes (views ++ view ∷ []) ≡ values_of bytes views ++ option_map (λ v. value_of v (bytes ∷ [])) view ∷ []
values_push bytes views view = map-append (option_map (λ v. value_of v (bytes ∷ []))) views (view ∷ [])

lies : (bytes value : List ℕ) → take (length value) (drop (length bytes) (bytes ++ value)) ≡ value
lies bytes value = ap (take (length value)) (drop_at bytes value (length bytes) refl) ∙ take_all (length value) value (omega arith)

-- the view of a value that is at the end of the bytes if it is long
pub view_reads : (bytes value : List ℕ) (all : List ℕ) → length value < 2 ^ 32 → length bytes < 2 ^ 32 → (12 < length value → all ≡ bytes ++ value)
    → HasValue (view_of value 0 (length bytes)) (all ∷ []) × (value_of (view_of value 0 (length bytes)) (all ∷ []) ≡ value)
view_reads bytes value all l m e = views_read_back value (all ∷ []) 0 (length bytes) l (omega arith) m (λ long. record {
  there = omega arith;
  here = ap (λ bs. take (length value) (drop (length bytes) bs)) (e long) ∙ lies bytes value;
})

-- the old bytes are a prefix
front : (old new : List ℕ) → take (length old) new ≡ old → old ++ drop (length old) new ≡ new
front old new e = ap (λ xs. xs ++ drop (length old) new) (sym e) ∙ take-append-drop (length old) new

pub values_stay : (s : Strings) (old new : List ℕ) (views : List (Option (List ℕ))) → take (length old) new ≡ old → AreValues s old views → AreValues s new views
values_stay s old new views e h = subst (λ bs. AreValues s bs views) (front old new e) (still_values s old (drop (length old) new) views h)

values_same : (s : Strings) (old new : List ℕ) (views : List (Option (List ℕ))) → take (length old) new ≡ old → AreValues s old views → values_of new views ≡ values_of old views
values_same s old new views e h = ap (λ bs. values_of bs views) (sym (front old new e)) ∙ same_values s old (drop (length old) new) views h

pub value_stays : (s : Strings) (old new value view : List ℕ) (views : List (Option (List ℕ))) → take (length old) new ≡ old → (12 < length value → new ≡ old ++ value) → length value < 2 ^ 32 → length old < 2 ^ 32 → IsString s value
    → view ≡ view_of value 0 (length old) → AreValues s old views → AreValues s new (views ++ Some view ∷ [])
value_stays s old new value view views e long l m valid is h =
    let reads = view_reads old value new l m long in
    values_grow s new views (Some view) (values_stay s old new views e h) (subst (ValueIn s new) (sym is) (reads.0, subst (IsString s) (sym reads.1) valid))

pub value_pushed : (s : Strings) (old new value view : List ℕ) (views : List (Option (List ℕ))) → take (length old) new ≡ old → (12 < length value → new ≡ old ++ value) → length value < 2 ^ 32 → length old < 2 ^ 32
    → view ≡ view_of value 0 (length old) → AreValues s old views → values_of new (views ++ Some view ∷ []) ≡ values_of old views ++ Some value ∷ []
value_pushed s old new value view views e long l m is h =
    let reads = view_reads old value new l m long in
    values_push new views (Some view)
    ∙ ap (λ xs. xs ++ Some (value_of view (new ∷ [])) ∷ []) (values_same s old new views e h)
    ∙ ap (λ v. values_of old views ++ Some v ∷ []) (ap (λ b. value_of b (new ∷ [])) is ∙ reads.1)

-- views that were made so, and the string with these bytes
pub same_pushed : (old new value text : List ℕ) (views made : List (Option (List ℕ))) (view : List ℕ) → made ≡ views ++ Some view ∷ [] → value ≡ text → values_of new (views ++ Some view ∷ []) ≡ values_of old views ++ Some value ∷ []
    → values_of new made ≡ values_of old views ++ Some text ∷ []
same_pushed old new value text views made view e is h = ap (values_of new) e ∙ h ∙ ap (λ t. values_of old views ++ Some t ∷ []) is

pub null_stays : (s : Strings) (bytes : List ℕ) (views new : List (Option (List ℕ))) → new ≡ views ++ None ∷ [] → AreValues s bytes views → AreValues s bytes new
null_stays s bytes views new e h = subst (AreValues s bytes) (sym e) (values_grow s bytes views None h tt)

pub null_more : (bytes : List ℕ) (views new : List (Option (List ℕ))) → new ≡ views ++ None ∷ [] → values_of bytes new ≡ values_of bytes views ++ None ∷ []
null_more bytes views new e = ap (values_of bytes) e ∙ values_push bytes views None

pub ruleset null_pushed = (null_stays, null_more)

-- ---- the array

joined_values : (s : Strings) (bytes : List ℕ) (views : List (Option (List ℕ))) → map (cell_raw (raw_string s)) (values_of bytes views) ≡ map (cell_raw (λ v. raw_string s (value_of v (bytes ∷ [])))) views
joined_values s bytes [] = refl
joined_values s bytes (None ∷ views) = ap (λ rs. raw_null ∷ rs) (joined_values s bytes views)
joined_values s bytes (Some v ∷ views) = ap (λ rs. raw_string s (value_of v (bytes ∷ [])) ∷ rs) (joined_values s bytes views)

there : (s : Strings) (bytes d : List ℕ) (view : Option (List ℕ)) → IfSome view (ValueIn s bytes) → is_some view ≡ true → ValueIn s bytes (unwrap_or view d)
there s bytes d None h e = absurd (cc e)
there s bytes d (Some v) h e = h

pub column_values : (s : Strings) (n : Nullability) (bytes d : List ℕ) (views : List (Option (List ℕ))) (items : List (List ℕ)) (v : Valid) → AreValues s bytes views → items ≡ map (λ c. unwrap_or c d) views → MarksCells n views v
    → IsColumn (type_of_strings s n) (map (cell_raw (raw_string s)) (values_of bytes views)) (strings s items (bytes ∷ []) v)
column_values s n bytes d views items v h e marks =
    let many : length items ≡ length views = ap length e ∙ length-map views (λ c. unwrap_or c d) in
    let f : List ℕ → Raw = λ x. raw_string s (value_of x (bytes ∷ [])) in
    subst (λ rs. IsColumn (type_of_strings s n) rs (strings s items (bytes ∷ []) v)) (sym (joined_values s bytes views)) (record {
      sound = (
        (λ i l t.
            let k : i < length views = subst (λ m. i < m) many l in
            let valid : is_some (get_or views i None) ≡ true = sym (marks.bits i k) ∙ t in
            let is : get_or items i [] ≡ unwrap_or (get_or views i None) d = ap (λ ys. get_or ys i []) e ∙ get_or-map (λ c. unwrap_or c d) views i None [] k in
            subst (ValueIn s bytes) (sym is) (there s bytes d (get_or views i None) (h i None k) valid)),
        subst (HasLength v) (sym many) marks.fits,
      );
      kind = ap (type_of_strings s) marks.nullability;
      len = many ∙ sym (length-map views (cell_raw f));
      rows = λ i l. cell_at f d [] views items v n e marks i (subst (λ m. i < m) (length-map views (cell_raw f)) l);
    })
