-- Views of values.
use Rattle.std.proofs.Common.{◌≡◌, ◌<◌, ◌≤◌, ◌+◌, ◌^◌, ℕ, pos, Bool, true, false, List, [], ◌∷◌, ◌++◌, length, map, take, drop, get_or, set, cond, leb, inl, inr, Option, Some, None, Bor, refl, sym, ap, subst, ◌∙◌, arith}
use Rattle.std.specs.List.{flat_map, All, Any}
use Rattle.std.proofs.lemmas.Bool.{le-leb, cases_eq, lt-leb}
use Rattle.std.proofs.lemmas.Bool.Decides.{leb_tells}
use Rattle.std.proofs.lemmas.List.{append-nil, length-map, map-append, take_more, get_or-map, length-set, get_or-set_same, get_or-set_other}
use Rattle.std.proofs.lemmas.List.Concat.{flat_map-append}
use Rattle.vortex_model.specs.Content.{raw_null}
use Rattle.vortex_model.proofs.Lists.{length_take}
use Rattle.vortex_arrays_view.specs.declared.error.ArrayError.TheVariants as error
use Rattle.vortex_arrays_view.specs.Views.{size_of, index_of, offset_of, inlined_of, value_of, HasValue}
use Rattle.vortex_arrays_view.specs.Made.{short_view}
use Rattle.vortex_arrays_view.specs.Lengths.{counts_of}
use Rattle.vortex_arrays_view.specs.Cuttings.{IsFewest, IsCutting}
use Rattle.vortex_arrays_view.specs.Built.{IsBuilt, IsBuildFault, IsTooMany, limit_of}
use Rattle.vortex_arrays_builder.specs.Strings.{bytes_in, buffered, buffered_len, AreViewsOf}
use Rattle.vortex_arrays_builder.proofs.StringLemmas.{views_made, strings_fault, counts_back, memory_fault}
use Rattle.vortex_arrays_parts.specs.Values.{lent, bytes_or_none, raw_of_bytes, AreTooLarge, AreViewed}

abbrev Value : Type 0
Value = Option (List ℕ)

abbrev Lent : Type 0
Lent = Option (Bor (List ℕ))

-- ---- one more value

taken : (vs : List Lent) (i : ℕ) (v : Lent) → i < length vs → v ≡ get_or vs i v → map lent (take (i + 1) vs) ≡ map lent (take i vs) ++ lent v ∷ []
taken vs i v l e = ap (map lent) (take_more vs i v l ∙ ap (λ y. take i vs ++ y ∷ []) (sym e)) ∙ map-append lent (take i vs) (v ∷ [])

raws_taken : (vs : List Lent) (i : ℕ) (v : Lent) → i < length vs → v ≡ get_or vs i v → map raw_of_bytes (map lent (take (i + 1) vs)) ≡ map raw_of_bytes (map lent (take i vs)) ++ raw_of_bytes (lent v) ∷ []
raws_taken vs i v l e = ap (map raw_of_bytes) (taken vs i v l e) ∙ map-append raw_of_bytes (map lent (take i vs)) (lent v ∷ [])

pub bytes_more : (vs : List Lent) (i : ℕ) (v : Lent) (old new piece : List ℕ) → old ≡ flat_map buffered (map raw_of_bytes (map lent (take i vs))) → i < length vs → v ≡ get_or vs i v → piece ≡ buffered (raw_of_bytes (lent v)) → new ≡ old ++ piece → new ≡ flat_map buffered (map raw_of_bytes (map lent (take (i + 1) vs)))
bytes_more vs i v old new piece h l e p n =
    let before = map raw_of_bytes (map lent (take i vs)) in
    n ∙ (λ j. h j ++ p j)
    ∙ sym (ap (flat_map buffered) (raws_taken vs i v l e) ∙ flat_map-append buffered before (raw_of_bytes (lent v) ∷ []) ∙ ap (λ xs. flat_map buffered before ++ xs) (append-nil (buffered (raw_of_bytes (lent v)))))

-- ---- views of short values

bytes_in_raw : (v : Value) → bytes_in (raw_of_bytes v) ≡ bytes_or_none v
bytes_in_raw None = refl
bytes_in_raw (Some bs) = refl

abbrev pub shortened : List Value → List (List ℕ) → ℕ → List ℕ
shortened vs old i = cond (leb (length (bytes_or_none (get_or vs i None))) 12) (short_view (bytes_or_none (get_or vs i None))) (get_or old i [])

-- the first n views are those of short values, where the values are short; the others are unchanged
pub record Inlined (vs : List Value) (n : ℕ) (old new : List (List ℕ)) : Type 0 where
  pub count : length new ≡ length old
  pub done : (i : ℕ) → i < n → get_or new i [] ≡ shortened vs old i
  pub rest : (i : ℕ) → n ≤ i → get_or new i [] ≡ get_or old i []

pub inlined_none : (vs : List Value) (old : List (List ℕ)) → Inlined vs 0 old old
inlined_none vs old = record { count = refl; done = λ i l. absurd (omega arith); rest = λ i l. refl }

pub inlined_short : (vs : List Value) (n : ℕ) (old new next : List (List ℕ)) (value view : List ℕ) → Inlined vs n old new → n < length new → value ≡ bytes_or_none (get_or vs n None) → length value ≤ 12 → view ≡ short_view value → next ≡ set new n view → Inlined vs (n + 1) old next
inlined_short vs n old new next value view h l e m w s =
    let short : shortened vs old n ≡ view =
    ap (λ (b : Bool). cond b (short_view (bytes_or_none (get_or vs n None))) (get_or old n [])) (le-leb (length (bytes_or_none (get_or vs n None))) 12 (subst (λ x. length x ≤ 12) e m))
    ∙ ap short_view (sym e) ∙ sym w in
    subst (Inlined vs (n + 1) old) (sym s) (record {
      count = length-set new n view ∙ h.count;
      done = λ i k. elim (cases_eq i n) [
        | inl same ↦ ap (λ j. get_or (set new n view) j []) same ∙ get_or-set_same new n view [] l ∙ sym short ∙ ap (shortened vs old) (sym same)
        | inr other ↦ get_or-set_other new n i view [] other ∙ h.done i (omega (arith, other))
      ];
      rest = λ i k. get_or-set_other new n i view [] (λ same. absurd (omega arith)) ∙ h.rest i (omega arith);
    })

pub inlined_long : (vs : List Value) (n : ℕ) (old new : List (List ℕ)) (value : List ℕ) → Inlined vs n old new → value ≡ bytes_or_none (get_or vs n None) → 12 < length value → Inlined vs (n + 1) old new
inlined_long vs n old new value h e m =
    let long : shortened vs old n ≡ get_or old n [] =
    ap (λ (b : Bool). cond b (short_view (bytes_or_none (get_or vs n None))) (get_or old n [])) (lt-leb (length (bytes_or_none (get_or vs n None))) 12 (subst (λ x. 12 < length x) e m)) in
    record {
      count = h.count;
      done = λ i k. elim (cases_eq i n) [
        | inl same ↦ h.rest i (omega (arith, same)) ∙ ap (λ j. get_or old j []) same ∙ sym long ∙ ap (shortened vs old) (sym same)
        | inr other ↦ h.done i (omega (arith, other))
      ];
      rest = λ i k. h.rest i (omega arith);
    }

-- the bytes of the value at an index
pub value_there : (vs : List Lent) (i : ℕ) (v : Lent) → i < length vs → v ≡ get_or vs i v → get_or (map lent vs) i None ≡ lent v
value_there vs i v l e = get_or-map lent vs i v None l ∙ ap lent (sym e)

pub ruleset inlined = (inlined_none, inlined_short, inlined_long, value_there)

-- ---- all views

raw_there : (vs : List Value) (i : ℕ) → i < length vs → bytes_in (get_or (map raw_of_bytes vs) i raw_null) ≡ bytes_or_none (get_or vs i None)
raw_there vs i l = ap bytes_in (get_or-map raw_of_bytes vs i None raw_null l) ∙ bytes_in_raw (get_or vs i None)

short_there : (vs : List Value) (old : List (List ℕ)) (i : ℕ) → length (bytes_or_none (get_or vs i None)) ≤ 12 → shortened vs old i ≡ short_view (bytes_or_none (get_or vs i None))
short_there vs old i h = ap (λ (b : Bool). cond b (short_view (bytes_or_none (get_or vs i None))) (get_or old i [])) (le-leb (length (bytes_or_none (get_or vs i None))) 12 h)

pub all_viewed : (vs : List Value) (bytes lengths : List ℕ) (buffers old new : List (List ℕ)) → bytes ≡ flat_map buffered (map raw_of_bytes vs) → lengths ≡ map buffered_len (map raw_of_bytes vs) → IsBuilt bytes (counts_of (map pos lengths)) 0 2147483647 buffers old → length new ≡ length old → ((i : ℕ) → i < length vs → get_or new i [] ≡ shortened vs old i) → AreViewed vs buffers new
all_viewed vs bytes lengths buffers old new b l h n e =
    let rs = map raw_of_bytes vs in
    let same : counts_of (map pos lengths) ≡ map buffered_len rs = counts_back lengths ∙ l in
    let built : IsBuilt (flat_map buffered rs) (map buffered_len rs) 0 2147483647 buffers old = subst (λ ns. IsBuilt (flat_map buffered rs) ns 0 2147483647 buffers old) same (subst (λ bs. IsBuilt bs (counts_of (map pos lengths)) 0 2147483647 buffers old) b h) in
    record {
      viewed = views_made rs bytes lengths 2147483647 buffers old new b l h n (λ i k.
          let m : i < length vs = subst (λ x. i < x) (length-map vs raw_of_bytes) k in
          e i m ∙ ap (λ (bs : List ℕ). cond (leb (length bs) 12) (short_view bs) (get_or old i [])) (sym (raw_there vs i m)));
      short = λ i k m. e i k ∙ short_there vs old i m;
      fewest = built.fewest;
      indices = let few = built.indices in omega (arith, few);
    }

pub ruleset viewed = (strings_fault, memory_fault)

-- ---- values that have views are within the limit

buffered_bound : (bs : List ℕ) (b : Bool) (n : ℕ) → leb (length bs) 12 ≡ b → n < length (cond b [] bs) → (n < length bs) × (12 < length bs)
buffered_bound bs true n t h = absurd (omega arith)
buffered_bound bs false n t h = (h, elim (leb_tells (length bs) 12) [ inl y ↦ absurd (cc (sym y.0 ∙ t)) | inr y ↦ (let m = y.1 in omega (arith, m)) ])

within_limit : (view : List ℕ) (buffers : List (List ℕ)) (v : List ℕ) (limit : ℕ) (b : Bool) → leb (size_of view) 12 ≡ b → HasValue view buffers → cond b (inlined_of view) (take (size_of view) (drop (offset_of view) (get_or buffers (index_of view) []))) ≡ v → All (λ buffer. length buffer ≤ limit) buffers → 12 < length v → length v ≤ limit
within_limit view buffers v limit true t h e w l =
    let s : size_of view ≤ 12 = elim (leb_tells (size_of view) 12) [ inl y ↦ y.1 | inr y ↦ absurd (cc (sym y.0 ∙ t)) ] in
    let m : length v ≤ size_of view = subst (λ xs. length xs ≤ size_of view) e (length_take (size_of view) (drop 4 view)) in
    absurd (omega (arith, s, m, l))
within_limit view buffers v limit false t h e w l =
    let s : 12 < size_of view = elim (leb_tells (size_of view) 12) [ inl y ↦ absurd (cc (sym y.0 ∙ t)) | inr y ↦ (let m = y.1 in omega (arith, m)) ] in
    let m : length v ≤ size_of view = subst (λ xs. length xs ≤ size_of view) e (length_take (size_of view) (drop (offset_of view) (get_or buffers (index_of view) []))) in
    let inside = h.inside s in
    let small : length (get_or buffers (index_of view) []) ≤ limit = w (index_of view) [] (h.there s) in
    omega (arith, m, inside, small)

none_too_long : (vs : List Value) (buffers views : List (List ℕ)) → AreViewed vs buffers views → Any (λ count. 2147483647 < count) (map buffered_len (map raw_of_bytes vs)) → ⊥
none_too_long vs buffers views h a =
    let rs = map raw_of_bytes vs in
    let k = a.0 in
    let inside : k < length rs = subst (λ n. k < n) (length-map rs buffered_len) a.2 in
    let r = get_or rs k raw_null in
    let long : 2147483647 < buffered_len r = subst (λ n. 2147483647 < n) (sym a.3 ∙ get_or-map buffered_len rs k raw_null a.1 inside) a.4 in
    let both = buffered_bound (bytes_in r) (leb (length (bytes_in r)) 12) 2147483647 refl long in
    let view = get_or views k [] in
    let small = within_limit view buffers (bytes_in r) 2147483647 (leb (size_of view) 12) refl (h.viewed.value k inside) (h.viewed.reads k inside) h.fewest.cutting.within both.1 in
    let much = both.0 in
    omega (arith, small, much)

not_too_many : (vs : List Value) (buffers views : List (List ℕ)) → AreViewed vs buffers views → IsTooMany (flat_map buffered (map raw_of_bytes vs)) (map buffered_len (map raw_of_bytes vs)) 0 2147483647 → ⊥
not_too_many vs buffers views h t =
    let few = h.indices in
    let many = t buffers h.fewest.cutting in
    omega (arith, few, many)

pub not_too_large : (vs : List Value) (buffers views : List (List ℕ)) → AreViewed vs buffers views → AreTooLarge vs → ⊥
not_too_large vs buffers views h t = elim t [ inl a ↦ none_too_long vs buffers views h a | inr m ↦ not_too_many vs buffers views h m ]
