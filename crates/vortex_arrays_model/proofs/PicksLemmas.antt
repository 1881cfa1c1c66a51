-- Rows picked from the parts of an array are picked from the array.
use Rattle.std.proofs.Common.{◌≡◌, ◌<◌, ◌≤◌, ◌+◌, ◌*◌, ℕ, zero, suc, ℤ, pos, Bool, true, false, cond, IsTrue, List, [], ◌∷◌, length, get_or, map, take, drop, refl, sym, ap, subst, ◌∙◌, arith}
use Rattle.std.specs.List.{All}
use Rattle.std.proofs.lemmas.Nat.{mul-add-lt}
use Rattle.std.proofs.lemmas.List.{take-map, drop-map, get_or-take, get_or-drop, length-take, length-drop}
use Rattle.vortex_model.specs.LogicalType.{LogicalType, boolean_type, integer_type, list, fixed_list, struct, field, IntKind, either_nullable, with_nullability, nullability_of}
use Rattle.vortex_model.specs.Content.{Content, null, boolean, integer, tuple, first, Raw}
use Rattle.vortex_model.specs.Valid.{InRange, IsValid}
use Rattle.vortex_arrays_view.specs.Views.{value_of, HasValue}
use Rattle.vortex_arrays_model.specs.Layout.{Strings, Layout, bools, numbers, strings, constant, dictionary, fixed_lists, list_views, records, Valid, required, all_valid, all_null, by_array, Columns, column, size_of, columns_size, len_of, array_type_of, type_of_strings, number_in, is_truth, pick, span, string_content, content_at, is_valid, row_at, IsInteger, IsOffsets, IsCode, IsView, IsString, AllReferenced, AreEndToEnd, IsSound, HasLength, HaveLength}
use Rattle.vortex_arrays_model.specs.Picks.{Picks, PicksValid, PicksColumns}
use Rattle.vortex_arrays_model.specs.Parts.{columns_of}

-- an unset flag requires nothing
pub no_flag : {A : Type 0} → IsTrue false → A
no_flag t = absurd (let f : false ≡ true → ⊥ = λ e. cc in f t)

pub picks_bools : (xs ys : List Bool) (v w : Valid) (n : ℕ) (f : ℕ → ℕ) → length ys ≡ n → ((i : ℕ) → i < n → get_or ys i false ≡ get_or xs (f i) false) → PicksValid v w n f → Picks (bools xs v) (bools ys w) n f
picks_bools xs ys v w n f len same p = record {
  sound = subst (HasLength w) (sym len) p.fits;
  len = len;
  kind = ap boolean_type p.nullability;
  content = λ i h. ap (λ b. cond b (boolean (get_or ys i false)) null) (p.bits i h) ∙ ap (λ b. cond (is_valid v (f i)) (boolean b) null) (same i h);
}

pub picks_numbers : (k : IntKind) (xs ys : List ℤ) (v w : Valid) (n : ℕ) (f : ℕ → ℕ) → length ys ≡ n → All (InRange k) ys → ((i : ℕ) → i < n → get_or ys i (pos 0) ≡ get_or xs (f i) (pos 0)) → PicksValid v w n f → Picks (numbers k xs v) (numbers k ys w) n f
picks_numbers k xs ys v w n f len fit same p = record {
  sound = (fit, subst (HasLength w) (sym len) p.fits);
  len = len;
  kind = ap (integer_type k) p.nullability;
  content = λ i h. ap (λ b. cond b (integer (get_or ys i (pos 0))) null) (p.bits i h) ∙ ap (λ z. cond (is_valid v (f i)) (integer z) null) (same i h);
}

pub picks_strings : (s : Strings) (xs ys bs : List (List ℕ)) (v w : Valid) (n : ℕ) (f : ℕ → ℕ) → IsSound (strings s xs bs v) → length ys ≡ n → ((i : ℕ) → i < n → f i < length xs) → ((i : ℕ) → i < n → get_or ys i [] ≡ get_or xs (f i) []) → PicksValid v w n f → Picks (strings s xs bs v) (strings s ys bs w) n f
picks_strings s xs ys bs v w n f h len within same p = record {
  sound = (
    λ i l t.
        let small : i < n = subst (λ m. i < m) len l in
        subst (λ x. HasValue x bs × IsString s (value_of x bs)) (sym (same i small)) (h.0 (f i) (within i small) (sym (p.bits i small) ∙ t)),
    subst (HasLength w) (sym len) p.fits,
  );
  len = len;
  kind = ap (type_of_strings s) p.nullability;
  content = λ i l. ap (λ b. cond b (string_content s (value_of (get_or ys i []) bs)) null) (p.bits i l) ∙ ap (λ x. cond (is_valid v (f i)) (string_content s (value_of x bs)) null) (same i l);
}

pub picks_constant : (k : LogicalType) (r : Raw) (m n : ℕ) (f : ℕ → ℕ) → IsValid k r → Picks (constant k r m) (constant k r n) n f
picks_constant k r m n f h = record { sound = h; len = refl; kind = refl; content = λ i l. refl }

-- a flag stays set where it is true of what was picked
pub picks_dictionary_flagged : (c r v : Layout) (g k : Bool) (n : ℕ) (f : ℕ → ℕ) → IsSound (dictionary c v g) → ((i : ℕ) → i < n → f i < len_of c) → Picks c r n f → (IsTrue k → AllReferenced r v) → Picks (dictionary c v g) (dictionary r v k) n f
picks_dictionary_flagged c r v g k n f s within p referenced = record {
  sound = (p.sound, s.1, subst IsInteger (sym p.kind) s.2, (λ i h. let l : i < n = subst (λ m. i < m) p.len h in subst (IsCode (len_of v)) (sym (p.content i l)) (s.3 (f i) (within i l))), referenced);
  len = p.len;
  kind = ap (λ t. with_nullability (either_nullable (nullability_of t) (nullability_of (array_type_of v))) (array_type_of v)) p.kind;
  content = λ i h. ap (λ x. pick x (λ j. content_at v j)) (p.content i h);
}

pub picks_dictionary : (c r v : Layout) (g : Bool) (n : ℕ) (f : ℕ → ℕ) → IsSound (dictionary c v g) → ((i : ℕ) → i < n → f i < len_of c) → Picks c r n f → Picks (dictionary c v g) (dictionary r v false) n f
picks_dictionary c r v g n f s within p = picks_dictionary_flagged c r v g false n f s within p (λ t. no_flag t)

pub eq_span : (f g : ℕ → Content) (i j n : ℕ) → ((k : ℕ) → k < n → f (i + k) ≡ g (j + k)) → span f i n ≡ span g j n
eq_span f g i j zero h = refl
eq_span f g i j (suc n) h =
    let here : f i ≡ g j = ap f (let e : i ≡ i + 0 = omega arith in e) ∙ h 0 (omega arith) ∙ ap g (let e : j + 0 ≡ j = omega arith in e) in
    let rest : span f (i + 1) n ≡ span g (j + 1) n = eq_span f g (i + 1) (j + 1) n (λ k l.
    let a : i + 1 + k ≡ i + suc k = omega arith in
    let b : j + suc k ≡ j + 1 + k = omega arith in
    ap f a ∙ h (suc k) (omega arith) ∙ ap g b) in
    (λ t. first (here t) (rest t))

-- the elements picked are those of the lists picked
pub picks_fixed_lists : (e r : Layout) (s m : ℕ) (v w : Valid) (n : ℕ) (f g : ℕ → ℕ) → Picks e r (n * s) g → ((i k : ℕ) → i < n → k < s → g (i * s + k) ≡ f i * s + k) → PicksValid v w n f → Picks (fixed_lists e s m v) (fixed_lists r s n w) n f
picks_fixed_lists e r s m v w n f g p at q = record {
  sound = (p.sound, p.len, q.fits);
  len = refl;
  kind = (λ t. fixed_list (p.kind t) s (q.nullability t));
  content = λ i l.
      let same : span (λ j. content_at r j) (i * s) s ≡ span (λ j. content_at e j) (f i * s) s = eq_span (λ j. content_at r j) (λ j. content_at e j) (i * s) (f i * s) s (λ k b.
      let inside : i * s + k < n * s = omega (arith, mul-add-lt i s k n l b) in
      p.content (i * s + k) inside ∙ ap (content_at e) (at i k l b)) in
      ap (λ b. cond b (tuple (span (λ j. content_at r j) (i * s) s)) null) (q.bits i l) ∙ ap (λ x. cond (is_valid v (f i)) (tuple x) null) same;
}

-- neighbouring fixed-size lists have neighbouring elements
pub picks_fixed_lists_from : (e r : Layout) (s m start : ℕ) (v w : Valid) (n : ℕ) → Picks e r (n * s) (λ i. start * s + i) → PicksValid v w n (λ i. start + i) → Picks (fixed_lists e s m v) (fixed_lists r s n w) n (λ i. start + i)
picks_fixed_lists_from e r s m start v w n p q = picks_fixed_lists e r s m v w n (λ i. start + i) (λ i. start * s + i) p (λ i k l b. omega arith) q

pub picks_list_views_flagged : (e o s q t : Layout) (g k : Bool) (v w : Valid) (n : ℕ) (f : ℕ → ℕ) → IsSound (list_views e o s g v) → ((i : ℕ) → i < n → f i < len_of o) → Picks o q n f → Picks s t n f → PicksValid v w n f → (IsTrue k → AreEndToEnd q t) → Picks (list_views e o s g v) (list_views e q t k w) n f
picks_list_views_flagged e o s q t g k v w n f h within p r m follow = record {
  sound = (
    h.0,
    p.sound,
    r.sound,
    subst IsOffsets (sym p.kind) h.3,
    subst IsOffsets (sym r.kind) h.4,
    r.len ∙ sym p.len,
    subst (HasLength w) (sym p.len) m.fits,
    (λ i b. let l : i < n = subst (λ x. i < x) p.len b in subst (λ x. IsView (len_of e) x (content_at t i)) (sym (p.content i l)) (subst (IsView (len_of e) (content_at o (f i))) (sym (r.content i l)) (h.7 (f i) (within i l)))),
    follow,
  );
  len = p.len;
  kind = ap (list (array_type_of e)) m.nullability;
  content = λ i b. ap (λ c. cond c (tuple (span (λ j. content_at e j) (number_in (content_at q i)) (number_in (content_at t i)))) null) (m.bits i b)
      ∙ ap (λ x. cond (is_valid v (f i)) (tuple (span (λ j. content_at e j) (number_in x) (number_in (content_at t i)))) null) (p.content i b)
      ∙ ap (λ x. cond (is_valid v (f i)) (tuple (span (λ j. content_at e j) (number_in (content_at o (f i))) (number_in x))) null) (r.content i b);
}

pub picks_list_views : (e o s q t : Layout) (g : Bool) (v w : Valid) (n : ℕ) (f : ℕ → ℕ) → IsSound (list_views e o s g v) → ((i : ℕ) → i < n → f i < len_of o) → Picks o q n f → Picks s t n f → PicksValid v w n f → Picks (list_views e o s g v) (list_views e q t false w) n f
picks_list_views e o s q t g v w n f h within p r m = picks_list_views_flagged e o s q t g false v w n f h within p r m (λ x. no_flag x)

-- neighbouring lists that follow one another still do
pub end_to_end_from : (o s q t : Layout) (n start : ℕ) → start + n ≤ len_of o → Picks o q n (λ i. start + i) → Picks s t n (λ i. start + i) → AreEndToEnd o s → AreEndToEnd q t
end_to_end_from o s q t n start fits p r h = λ i l.
    let next : suc i < n = subst (λ m. suc i < m) p.len l in
    let here : i < n = omega arith in
    let within : suc (start + i) < len_of o = omega arith in
    let place : start + suc i ≡ suc (start + i) = omega arith in
    ap number_in (p.content (suc i) next) ∙ ap (λ j. number_in (content_at o j)) place ∙ h (start + i) within
    ∙ (λ j. number_in (sym (p.content i here) j) + number_in (sym (r.content i here) j))

pub picks_list_views_from : (e o s q t : Layout) (g : Bool) (v w : Valid) (n start : ℕ) → IsSound (list_views e o s g v) → start + n ≤ len_of o → Picks o q n (λ i. start + i) → Picks s t n (λ i. start + i) → PicksValid v w n (λ i. start + i) → Picks (list_views e o s g v) (list_views e q t g w) n (λ i. start + i)
picks_list_views_from e o s q t g v w n start h fits p r m = picks_list_views_flagged e o s q t g g v w n (λ i. start + i) h (λ i l. omega arith) p r m (λ x. end_to_end_from o s q t n start fits p r (h.8 x))

pub picks_records : (cs ds : Columns) (m : ℕ) (v w : Valid) (n : ℕ) (f : ℕ → ℕ) → PicksColumns cs ds n f → PicksValid v w n f → Picks (records cs m v) (records ds n w) n f
picks_records cs ds m v w n f p q = record {
  sound = (p.fit, q.fits);
  len = refl;
  kind = (λ i. struct (p.fields i) (q.nullability i));
  content = λ i h. ap (λ b. cond b (tuple (row_at ds i)) null) (q.bits i h) ∙ ap (λ r. cond (is_valid v (f i)) (tuple r) null) (p.rows i h);
}

pub picks_required : (n : ℕ) (f : ℕ → ℕ) → PicksValid required required n f
picks_required n f = record { fits = tt; nullability = refl; bits = λ i h. refl }

pub picks_all_valid : (n : ℕ) (f : ℕ → ℕ) → PicksValid all_valid all_valid n f
picks_all_valid n f = record { fits = tt; nullability = refl; bits = λ i h. refl }

pub picks_all_null : (n : ℕ) (f : ℕ → ℕ) → PicksValid all_null all_null n f
picks_all_null n f = record { fits = tt; nullability = refl; bits = λ i h. refl }

pub picks_by_array : (a r : Layout) (m n : ℕ) (f : ℕ → ℕ) → HasLength (by_array a) m → Picks a r n f → PicksValid (by_array a) (by_array r) n f
picks_by_array a r m n f h p = record {
  fits = (p.sound, p.len, p.kind ∙ h.2);
  nullability = refl;
  bits = λ i l. ap is_truth (p.content i l);
}

-- all of an array, and a part of a part
pub picks_all : (a : Layout) → IsSound a → Picks a a (len_of a) (λ i. i)
picks_all a s = record { sound = s; len = refl; kind = refl; content = λ i l. refl }

pub picks_picked : (a b c : Layout) (n m : ℕ) (f g : ℕ → ℕ) → ((i : ℕ) → i < m → g i < n) → Picks a b n f → Picks b c m g → Picks a c m (λ i. f (g i))
picks_picked a b c n m f g within p q = record {
  sound = q.sound;
  len = q.len;
  kind = q.kind ∙ p.kind;
  content = λ i l. q.content i l ∙ p.content (g i) (within i l);
}

-- equal indices pick the same rows
pub picks_same : (a r : Layout) (n : ℕ) (f g : ℕ → ℕ) → ((i : ℕ) → i < n → f i ≡ g i) → Picks a r n f → Picks a r n g
picks_same a r n f g same p = record { sound = p.sound; len = p.len; kind = p.kind; content = λ i l. p.content i l ∙ ap (content_at a) (same i l) }

pub picks_part_of_part : (a b c : Layout) (n m start at : ℕ) → at + m ≤ n → Picks a b n (λ i. start + i) → Picks b c m (λ i. at + i) → Picks a c m (λ i. start + at + i)
picks_part_of_part a b c n m start at fits p q = picks_same a c m (λ i. start + (at + i)) (λ i. start + at + i) (λ i l. omega arith) (picks_picked a b c n m (λ i. start + i) (λ i. at + i) (λ i l. omega arith) p q)

pub part_of_naturals : (xs : List ℕ) (n i : ℕ) → take n (drop i (map pos xs)) ≡ map pos (take n (drop i xs))
part_of_naturals xs n i = ap (take n) (drop-map pos i xs) ∙ take-map pos n (drop i xs)

-- the items of a part
pub get_or-part : {X : Type 0} (xs : List X) (n at : ℕ) (d : X) (i : ℕ) → i < n → get_or (take n (drop at xs)) i d ≡ get_or xs (at + i) d
get_or-part xs n at d i h = get_or-take n (drop at xs) i d h ∙ get_or-drop at xs i d

pub length-part : {X : Type 0} (xs : List X) (n at : ℕ) → at + n ≤ length xs → length (take n (drop at xs)) ≡ n
length-part xs n at h = omega (arith, length-take n (drop at xs), length-drop at xs)

pub All-part : {X : Type 0} (P : X → Type 0) (xs : List X) (n at : ℕ) → at + n ≤ length xs → All P xs → All P (take n (drop at xs))
All-part P xs n at fits h = λ k d l.
    let small : k < n = subst (λ m. k < m) (length-part xs n at fits) l in
    subst P (sym (get_or-part xs n at d k small)) (h (at + k) d (omega arith))

pub ruleset parts = (part_of_naturals, get_or-part, length-part, All-part)

pub ruleset picked = (picks_bools, picks_numbers, picks_strings, picks_constant, picks_dictionary, picks_fixed_lists_from, picks_list_views_from, picks_records, picks_by_array, picks_required, picks_all_valid, picks_all_null, get_or-part, length-part, All-part)

-- Columns by their names and arrays: each is sound and has the length of the struct array.
pub each_length : (xs : List (List ℕ)) (fs : List Layout) (m k : ℕ) (d : Layout) → HaveLength (columns_of xs fs) m → k < length fs → len_of (get_or fs k d) ≡ m
each_length xs [] m k d h l = absurd (omega arith)
each_length [] (a ∷ fs) m zero d h l = h.1
each_length [] (a ∷ fs) m (suc k) d h l = each_length [] fs m k d h.2 (omega arith)
each_length (x ∷ xs) (a ∷ fs) m zero d h l = h.1
each_length (x ∷ xs) (a ∷ fs) m (suc k) d h l = each_length xs fs m k d h.2 (omega arith)

pub each_sound : (xs : List (List ℕ)) (fs : List Layout) (m k : ℕ) (d : Layout) → HaveLength (columns_of xs fs) m → k < length fs → IsSound (get_or fs k d)
each_sound xs [] m k d h l = absurd (omega arith)
each_sound [] (a ∷ fs) m zero d h l = h.0
each_sound [] (a ∷ fs) m (suc k) d h l = each_sound [] fs m k d h.2 (omega arith)
each_sound (x ∷ xs) (a ∷ fs) m zero d h l = h.0
each_sound (x ∷ xs) (a ∷ fs) m (suc k) d h l = each_sound xs fs m k d h.2 (omega arith)

pub have_length : (xs : List (List ℕ)) (fs : List Layout) (m : ℕ) → ((k : ℕ) (d : Layout) → k < length fs → IsSound (get_or fs k d)) → ((k : ℕ) (d : Layout) → k < length fs → len_of (get_or fs k d) ≡ m) → HaveLength (columns_of xs fs) m
have_length [] [] m s h = tt
have_length (x ∷ xs) [] m s h = tt
have_length [] (a ∷ fs) m s h = (s 0 a (omega arith), h 0 a (omega arith), have_length [] fs m (λ k d l. s (suc k) d (omega arith)) (λ k d l. h (suc k) d (omega arith)))
have_length (x ∷ xs) (a ∷ fs) m s h = (s 0 a (omega arith), h 0 a (omega arith), have_length xs fs m (λ k d l. s (suc k) d (omega arith)) (λ k d l. h (suc k) d (omega arith)))

each_size : (xs : List (List ℕ)) (fs : List Layout) (k : ℕ) (d : Layout) → k < length fs → size_of (get_or fs k d) ≤ columns_size (columns_of xs fs)
each_size xs [] k d l = absurd (omega arith)
each_size [] (a ∷ fs) zero d l = omega arith
each_size [] (a ∷ fs) (suc k) d l = let h : k < length fs = omega arith in omega (arith, each_size [] fs k d h)
each_size (x ∷ xs) (a ∷ fs) zero d l = omega arith
each_size (x ∷ xs) (a ∷ fs) (suc k) d l = let h : k < length fs = omega arith in omega (arith, each_size xs fs k d h)

-- an array that was read at an index
pub field_length : (xs : List (List ℕ)) (fs : List Layout) (m k : ℕ) (a : Layout) → HaveLength (columns_of xs fs) m → a ≡ get_or fs k a → k < length fs → len_of a ≡ m
field_length xs fs m k a h e l = ap len_of e ∙ each_length xs fs m k a h l

pub field_sound : (xs : List (List ℕ)) (fs : List Layout) (m k : ℕ) (a : Layout) → HaveLength (columns_of xs fs) m → a ≡ get_or fs k a → k < length fs → IsSound a
field_sound xs fs m k a h e l = subst IsSound (sym e) (each_sound xs fs m k a h l)

pub field_size : (xs : List (List ℕ)) (fs : List Layout) (k : ℕ) (a : Layout) → a ≡ get_or fs k a → k < length fs → size_of a ≤ columns_size (columns_of xs fs)
field_size xs fs k a e l = subst (λ b. size_of b ≤ columns_size (columns_of xs fs)) (sym e) (each_size xs fs k a l)

pub picks_column : (n : ℕ) (f : ℕ → ℕ) (x : List ℕ) (a r : Layout) (cs ds : Columns) → Picks a r n f → PicksColumns cs ds n f → PicksColumns (column x a cs) (column x r ds) n f
picks_column n f x a r cs ds h p = record {
  fit = (h.sound, h.len, p.fit);
  fields = (λ i. field x (h.kind i) (p.fields i));
  rows = λ i l. (λ j. first (h.content i l j) (p.rows i l j));
}

pub picks_columns : (xs : List (List ℕ)) (fs ps : List Layout) (n : ℕ) (f : ℕ → ℕ) → length ps ≡ length fs → ((k : ℕ) (d : Layout) → k < length fs → Picks (get_or fs k d) (get_or ps k d) n f) → PicksColumns (columns_of xs fs) (columns_of xs ps) n f
picks_columns xs [] [] n f e h = record { fit = tt; fields = refl; rows = λ i l. refl }
picks_columns xs [] (p ∷ ps) n f e h = absurd (omega (arith, e))
picks_columns xs (a ∷ fs) [] n f e h = absurd (omega (arith, e))
picks_columns [] (a ∷ fs) (p ∷ ps) n f e h = picks_column n f [] a p (columns_of [] fs) (columns_of [] ps) (h 0 a (omega arith)) (picks_columns [] fs ps n f (omega (arith, e)) (λ k d l. h (suc k) d (omega arith)))
picks_columns (x ∷ xs) (a ∷ fs) (p ∷ ps) n f e h = picks_column n f x a p (columns_of xs fs) (columns_of xs ps) (h 0 a (omega arith)) (picks_columns xs fs ps n f (omega (arith, e)) (λ k d l. h (suc k) d (omega arith)))

pub ruleset fields_read = (field_length, field_sound, field_size, picks_columns)
