-- Dictionaries of leaf values as the values at their codes.
use Rattle.std.proofs.Common.{◌≡◌, ◌<◌, ℕ, ℤ, pos, Bool, true, false, cond, List, [], length, get_or, map, Some, Option, None, refl, sym, ap, subst, ◌∙◌}
use Rattle.std.specs.List.{All, slice_get}
use Rattle.std.proofs.lemmas.List.{get_or-map, length-map}
use Rattle.vortex_model.specs.LogicalType.{LogicalType, IntKind, boolean_type, integer_type, Nullability, either_nullable, nullability_of, with_nullability}
use Rattle.vortex_model.specs.Content.{Content, null, boolean, integer, text, byte_string, tuple, tagged, scalar}
use Rattle.vortex_model.specs.Convert.{converts}
use Rattle.vortex_model.specs.Valid.{InRange}
use Rattle.vortex_arrays_buffer.proofs.NumberLemmas.{items_read}
use Rattle.vortex_arrays_view.specs.Views.{value_of, HasValue}
use Rattle.vortex_arrays_model.specs.Layout.{Layout, bools, numbers, strings, dictionary, Strings, texts, byte_strings, type_of_strings, string_content, Valid, number_in, pick, len_of, array_type_of, nullability_by, content_at, is_valid, IsCode, IsString, IsSound, HasLength}
use Rattle.vortex_arrays_model.specs.Parts.{AreWithin}
use Rattle.vortex_arrays_model.specs.Picks.{PicksSomeValid, position_of, is_valid_some}
use Rattle.vortex_arrays_model.proofs.PicksLemmas.{no_flag}
use Rattle.vortex_arrays_validity.proofs.PlaceLemmas.{number_named, place_count as count_of, place_read as read_of}
use Rattle.vortex_arrays_validity.specs.Validities.{IsRecast}
use Rattle.vortex_arrays_cast.specs.Cast.{IsCast}
use Rattle.vortex_arrays_cast.specs.Dictionaries.{places_of, integers_at}
use Rattle.vortex_arrays_cast.specs.Ranges.{IsBetween, LieIn, Keeps}
use Rattle.vortex_arrays_cast.proofs.CastLemmas.{as_many, cast_integers}
use Rattle.vortex_arrays_cast.proofs.NumberLemmas.{kept_same}

-- ---- indices

pub place_count : (c : Layout) → length (places_of c) ≡ len_of c
place_count c = count_of 0 c

pub place_read : (c : Layout) (i d : ℕ) → i < len_of c → get_or (places_of c) i d ≡ number_in (content_at c i)
place_read c i d l = read_of 0 c i d l ∙ number_named (content_at c i)

-- a code is the index of a value, where null counts as 0
code_within : (n : ℕ) (c : Content) → 0 < n → IsCode n c → number_in c < n
code_within n null some h = some
code_within n (integer (pos i)) some h = h
code_within n c some h = absurd h

pub places_within : (c : Layout) (n : ℕ) → 0 < n → AreWithin c n → All (λ i. i < n) (places_of c)
places_within c n some h = λ i d l.
    let within : i < len_of c = subst (λ m. i < m) (place_count c) l in
    subst (λ p. p < n) (sym (place_read c i d within)) (code_within n (content_at c i) some (h i within))

-- ---- values at indices

-- the value at the code of a row
picked : (x : Content) (g : ℕ → Content) (v w : Valid) (i : ℕ) → is_valid w i ≡ is_valid_some v (position_of x) → cond (is_valid w i) (g (number_in x)) null ≡ pick x (λ j. cond (is_valid v j) (g j) null)
picked null g v w i e = ap (λ b. cond b (g 0) null) e
picked (boolean b) g v w i e = ap (λ b. cond b (g 0) null) e
picked (integer z) g v w i e = ap (λ b. cond b (g (number_in (integer z))) null) e
picked (text bs) g v w i e = ap (λ b. cond b (g 0) null) e
picked (byte_string bs) g v w i e = ap (λ b. cond b (g 0) null) e
picked (tuple cs) g v w i e = ap (λ b. cond b (g 0) null) e
picked (tagged t c) g v w i e = ap (λ b. cond b (g 0) null) e
picked (scalar k c) g v w i e = ap (λ b. cond b (g 0) null) e

-- with the same rows and the same type
moved : (k : LogicalType) (a p r : Layout) → len_of p ≡ len_of a → array_type_of p ≡ array_type_of a → ((i : ℕ) → i < len_of a → content_at p i ≡ content_at a i) → IsCast k p r → IsCast k a r
moved k a p r len kind same h = record {
  sound = h.sound;
  len = h.len ∙ len;
  kind = h.kind;
  content = λ i l. h.content i (subst (λ n. i < n) (sym len) l) ∙ same i l;
  held = λ i l. (λ t. converts (sym kind t) k (sym (same i l) t)) ∙ h.held i (subst (λ n. i < n) (sym len) l);
  layout = h.layout;
}

-- the flag of a dictionary doesn't change its rows
pub flagged : (k : LogicalType) (c v r : Layout) (f : Bool) → IsCast k (dictionary c v false) r → IsCast k (dictionary c v f) r
flagged k c v r f h = moved k (dictionary c v f) (dictionary c v false) r refl refl (λ i l. refl) h

pub unflagged : (c v : Layout) (f : Bool) → IsSound (dictionary c v f) → IsSound (dictionary c v false)
unflagged c v f s = (s.0, s.1, s.2, s.3, (λ t. no_flag t))

pub unflagged_range : (c v : Layout) (f : Bool) (r : Option (ℤ × ℤ)) → LieIn r (dictionary c v f) → LieIn r (dictionary c v false)
unflagged_range c v f None h = tt
unflagged_range c v f (Some r) h = h

-- which rows of a dictionary are null
abbrev pub IsCoded : Layout → Valid → Valid → Type 0
IsCoded c v w = PicksSomeValid v w (nullability_of (array_type_of c)) (len_of c) (λ i. position_of (content_at c i))

pub coded_fits : {X : Type 0} (c : Layout) (v w : Valid) (xs : List X) → length xs ≡ len_of c → IsCoded c v w → HasLength w (length xs)
coded_fits c v w xs e p = subst (HasLength w) (sym e) p.fits

-- booleans

pub coded_bools_fit : (c : Layout) (bs ds : List Bool) (v w : Valid) → ds ≡ map (λ i. get_or bs i false) (places_of c) → IsCoded c v w → HasLength w (length ds)
coded_bools_fit c bs ds v w e p = coded_fits c v w ds (ap length e ∙ length-map (places_of c) (λ i. get_or bs i false) ∙ place_count c) p

pub cast_coded_bools : (k : LogicalType) (c : Layout) (bs ds : List Bool) (v w : Valid) (r : Layout) → ds ≡ map (λ i. get_or bs i false) (places_of c) → IsCoded c v w → IsCast k (bools ds w) r → IsCast k (dictionary c (bools bs v) false) r
cast_coded_bools k c bs ds v w r e p h =
    let count : length ds ≡ len_of c = ap length e ∙ length-map (places_of c) (λ i. get_or bs i false) ∙ place_count c in
    moved k (dictionary c (bools bs v) false) (bools ds w) r count (ap boolean_type p.nullability) (λ i l.
    let within : i < length (places_of c) = subst (λ n. i < n) (sym (place_count c)) l in
    let read : get_or ds i false ≡ get_or bs (number_in (content_at c i)) false
    = ap (λ xs. get_or xs i false) e ∙ get_or-map (λ j. get_or bs j false) (places_of c) i 0 false within ∙ ap (λ j. get_or bs j false) (place_read c i 0 l) in
    ap (λ b. cond (is_valid w i) (boolean b) null) read ∙ picked (content_at c i) (λ j. boolean (get_or bs j false)) v w i (p.bits i l)) h

-- integers

number_read : (c : Layout) (zs ws : List ℤ) (i : ℕ) → ws ≡ integers_at zs (places_of c) → i < len_of c → get_or ws i (pos 0) ≡ get_or zs (number_in (content_at c i)) (pos 0)
number_read c zs ws i e l =
    let within : i < length (places_of c) = subst (λ n. i < n) (sym (place_count c)) l in
    ap (λ xs. get_or xs i (pos 0)) e ∙ get_or-map (λ j. get_or zs j (pos 0)) (places_of c) i 0 (pos 0) within ∙ ap (λ j. get_or zs j (pos 0)) (place_read c i 0 l)

coded_number : (k j : IntKind) (c : Layout) (zs : List ℤ) (v w : Valid) (i : ℕ) → IsCoded c v w → i < len_of c → content_at (numbers k (integers_at zs (places_of c)) w) i ≡ content_at (dictionary c (numbers k zs v) false) i
coded_number k j c zs v w i p l =
    ap (λ z. cond (is_valid w i) (integer z) null) (number_read c zs (integers_at zs (places_of c)) i refl l)
    ∙ picked (content_at c i) (λ h. integer (get_or zs h (pos 0))) v w i (p.bits i l)

number_count : (c : Layout) (zs : List ℤ) → length (integers_at zs (places_of c)) ≡ len_of c
number_count c zs = length-map (places_of c) (λ i. get_or zs i (pos 0)) ∙ place_count c

lie_coded : (k : IntKind) (c : Layout) (zs : List ℤ) (v w : Valid) (r : Option (ℤ × ℤ)) → IsCoded c v w → LieIn r (dictionary c (numbers k zs v) false) → LieIn r (numbers k (integers_at zs (places_of c)) w)
lie_coded k c zs v w None p h = tt
lie_coded k c zs v w (Some r) p h = λ i l.
    let within : i < len_of c = subst (λ n. i < n) (number_count c zs) l in
    subst (IsBetween r.0 r.1) (sym (coded_number k k c zs v w i p within)) (h i within)

pub coded_numbers_fit : (c : Layout) (zs ws : List ℤ) (w u : Valid) (m : Nullability) (r : Option (ℤ × ℤ)) → Keeps r (integers_at zs (places_of c)) ws → IsRecast w u m (len_of c) → HasLength u (length ws)
coded_numbers_fit c zs ws w u m r kept h = subst (HasLength u) (sym (as_many r (integers_at zs (places_of c)) ws kept ∙ number_count c zs)) h.fits

-- in a type that has them, where `u` is the validity in the nullability of the target
pub cast_coded_integers : (k j : IntKind) (c : Layout) (zs ws : List ℤ) (v w u : Valid) (m : Nullability) (r : Option (ℤ × ℤ)) → Keeps r (integers_at zs (places_of c)) ws → All (InRange j) ws → LieIn r (dictionary c (numbers k zs v) false) → IsCoded c v w → IsRecast w u m (len_of c) → IsCast (integer_type j m) (dictionary c (numbers k zs v) false) (numbers j ws u)
cast_coded_integers k j c zs ws v w u m r kept fit lie p h =
    moved (integer_type j m) (dictionary c (numbers k zs v) false) (numbers k (integers_at zs (places_of c)) w) (numbers j ws u) (number_count c zs) (ap (integer_type k) p.nullability) (λ i l. coded_number k j c zs v w i p l)
    (cast_integers k j (integers_at zs (places_of c)) ws w u m r kept fit (lie_coded k c zs v w r p lie) (subst (IsRecast w u m) (sym (number_count c zs)) h))

-- strings and bytes

string_kind : (s : Strings) (n m : Nullability) → with_nullability (either_nullable m (nullability_of (type_of_strings s n))) (type_of_strings s n) ≡ type_of_strings s (either_nullable m n)
string_kind texts n m = refl
string_kind byte_strings n m = refl

view_read : (c : Layout) (vs ws : List (List ℕ)) (i : ℕ) → map Some ws ≡ map (slice_get vs) (places_of c) → i < len_of c → get_or ws i [] ≡ get_or vs (number_in (content_at c i)) []
view_read c vs ws i e l =
    let within : i < length (places_of c) = subst (λ n. i < n) (sym (place_count c)) l in
    ap (λ xs. get_or xs i []) (items_read vs ws (places_of c) [] e) ∙ get_or-map (λ j. get_or vs j []) (places_of c) i 0 [] within ∙ ap (λ j. get_or vs j []) (place_read c i 0 l)

view_count : (c : Layout) (vs ws : List (List ℕ)) → map Some ws ≡ map (slice_get vs) (places_of c) → length ws ≡ len_of c
view_count c vs ws e = ap length (items_read vs ws (places_of c) [] e) ∙ length-map (places_of c) (λ i. get_or vs i []) ∙ place_count c

-- the code of a valid row is the index of a valid value
named_valid : (v : Valid) (x : Content) → is_valid_some v (position_of x) ≡ true → is_valid v (number_in x) ≡ true
named_valid v null e = absurd (cc e)
named_valid v (boolean b) e = e
named_valid v (integer z) e = e
named_valid v (text bs) e = e
named_valid v (byte_string bs) e = e
named_valid v (tuple cs) e = e
named_valid v (tagged t c) e = e
named_valid v (scalar k c) e = e

pub coded_views_sound : (s : Strings) (c : Layout) (vs ws bs : List (List ℕ)) (v w : Valid) → 0 < length vs → IsSound (dictionary c (strings s vs bs v) false) → map Some ws ≡ map (slice_get vs) (places_of c) → IsCoded c v w → IsSound (strings s ws bs w)
coded_views_sound s c vs ws bs v w some sound e p = (
  (λ i l t.
      let within : i < len_of c = subst (λ n. i < n) (view_count c vs ws e) l in
      let j = number_in (content_at c i) in
      let inside : j < length vs = code_within (length vs) (content_at c i) some (sound.3 i within) in
      let named : is_valid v j ≡ true = named_valid v (content_at c i) (sym (p.bits i within) ∙ t) in
      subst (λ x. HasValue x bs × IsString s (value_of x bs)) (sym (view_read c vs ws i e within)) (sound.1.0 j inside named)),
  coded_fits c v w ws (view_count c vs ws e) p,
)

pub cast_coded_strings : (k : LogicalType) (s : Strings) (c : Layout) (vs ws bs : List (List ℕ)) (v w : Valid) (r : Layout) → map Some ws ≡ map (slice_get vs) (places_of c) → IsCoded c v w → IsCast k (strings s ws bs w) r → IsCast k (dictionary c (strings s vs bs v) false) r
cast_coded_strings k s c vs ws bs v w r e p h =
    moved k (dictionary c (strings s vs bs v) false) (strings s ws bs w) r (view_count c vs ws e)
    (ap (type_of_strings s) p.nullability ∙ sym (string_kind s (nullability_by v) (nullability_of (array_type_of c)))) (λ i l.
    ap (λ x. cond (is_valid w i) (string_content s (value_of x bs)) null) (view_read c vs ws i e l)
    ∙ picked (content_at c i) (λ j. string_content s (value_of (get_or vs j []) bs)) v w i (p.bits i l)) h

pub ruleset coded = (places_within)

-- ---- integer types

pub kept_at : (r : Option (ℤ × ℤ)) (zs us ws : List ℤ) (ps : List ℕ) → Keeps None zs us → ws ≡ map (λ i. get_or us i (pos 0)) ps → Keeps r (integers_at zs ps) ws
kept_at r zs us ws ps kept e = kept_same r (integers_at zs ps) ws (e ∙ ap (λ xs. map (λ i. get_or xs i (pos 0)) ps) kept)

pub kept_coded : (r : Option (ℤ × ℤ)) (zs us ws : List ℤ) (ps : List ℕ) → us ≡ map (λ i. get_or zs i (pos 0)) ps → Keeps r us ws → Keeps r (integers_at zs ps) ws
kept_coded r zs us ws ps e kept = subst (λ xs. Keeps r xs ws) e kept

pub places_held : (zs us : List ℤ) (ps : List ℕ) → Keeps None zs us → All (λ i. i < length zs) ps → All (λ i. i < length us) ps
places_held zs us ps kept h = subst (λ n. All (λ i. i < n) ps) (sym (ap length kept)) h

pub ruleset at_places = (kept_at, kept_coded, places_held)

pub ruleset arms = (flagged)
