-- The effect of numbering a value.
use Rattle.std.proofs.Common.{◌≡◌, ◌<◌, ◌≤◌, ◌+◌, ℕ, true, cond, List, [], ◌∷◌, ◌++◌, length, map, take, set, get_or, Option, Some, Bor, refl, sym, ap, subst, ◌∙◌, inl, inr, arith}
use Rattle.std.specs.BTreeMap.{BTreeMap, get}
use Rattle.std.specs.Cmp.Derive.{both_true}
use Rattle.std.specs.Ordering.{int_eq, is_eq}
use Rattle.std.specs.Str.{bytes_eq}
use Rattle.std.proofs.lemmas.Cmp.{int_eq_equiv, nat_list_eq_equiv}
use Rattle.std.proofs.lemmas.List.{map-append, length-map, take_more, take_more_set, take_all, get_or-map}
use Rattle.vortex_model.specs.LogicalType.{LogicalType}
use Rattle.vortex_model.specs.Kept.{is_leaf}
use Rattle.vortex_model.specs.Content.{Raw, raw_null}
use Rattle.vortex_model.specs.Valid.{valid}
use Rattle.vortex_scalar_value.specs.View.{raw_at}
use Rattle.vortex_scalar_value.specs.declared.scalar_value.ScalarValue.{ScalarValue}
use Rattle.vortex_scalar_value.proofs.Nulls.{never_null}
use Rattle.vortex_arrays_dictionary.specs.Numbering.{Key, number_in, bytes_in, has_key, key_cmp, Knows, IsPlaced, IsNumbered, IsNumberedOrNull, AreOf, IsNumbering}
use Rattle.vortex_arrays_dictionary.proofs.KeyLemmas.{index_found, knows_more}
use Rattle.vortex_arrays_dictionary.proofs.NumberingLemmas.{none_numbered, numbered_more}

key_has : (q : Key) (r : Raw) → q.0 ≡ number_in r → q.1.now ≡ bytes_in r → has_key q r ≡ true
key_has q r e f = both_true (subst (λ z. int_eq q.0 z ≡ true) e (int_eq_equiv.refl q.0)) (subst (λ bs. bytes_eq q.1.now bs ≡ true) f (nat_list_eq_equiv.refl q.1.now))

-- a new key has the next index
pub placed_last : (old new : BTreeMap Key ℕ) (ds es : List Raw) (r : Raw) (q : Key) (next n : ℕ) → Knows old ds → next ≡ length ds → q.0 ≡ number_in r → q.1.now ≡ bytes_in r → IsPlaced old q next new n → n ≡ next → es ≡ ds ++ r ∷ [] → Knows new es × IsNumbered q ds r es n
placed_last old new ds es r q next n knows e f g (inl p) h made = absurd (let l = index_found (has_key q) ds n (sym (knows q) ∙ p.0) in omega (arith, l.0))
placed_last old new ds es r q next n knows e f g (inr p) h made =
    let more = knows_more (get key_cmp old) (get key_cmp new) ds q r (key_has q r f g) knows p.0 (λ k. p.2 k ∙ ap (λ m. cond (is_eq (key_cmp q k)) (Some m) (get key_cmp old k)) e) in
    (subst (Knows new) (sym made) more, (key_has q r f g, inr (sym (knows q) ∙ p.0, h ∙ e, made)))

-- any other key keeps its index
pub placed_among : (old new : BTreeMap Key ℕ) (ds : List Raw) (r : Raw) (q : Key) (next n : ℕ) → Knows old ds → next ≡ length ds → q.0 ≡ number_in r → q.1.now ≡ bytes_in r → IsPlaced old q next new n → (n ≡ next → ⊥) → Knows new ds × IsNumbered q ds r ds n
placed_among old new ds r q next n knows e f g (inl p) h = (subst (λ m. Knows m ds) (sym p.1) knows, (key_has q r f g, inl (sym (knows q) ∙ p.0, refl)))
placed_among old new ds r q next n knows e f g (inr p) h = absurd (h p.1)

pub ruleset placing = (placed_last, placed_among)

pub ruleset present = (never_null)

-- the map before the first value is empty
abbrev Value : Type 0
Value = Option (Bor ScalarValue)

-- one more value is numbered
pub numbered_turn : (k : LogicalType) (vs : List Value) (i : ℕ) (v : Value) (ds es : List Raw) (ns : List ℕ) (n : ℕ) → is_leaf k ≡ true → length ns ≡ length vs → AreOf k (map raw_at vs) → IsNumbering k (map raw_at (take i vs)) ds (take i ns) → i < length vs → v ≡ get_or vs i v → IsNumberedOrNull ds (raw_at v) es n → IsNumbering k (map raw_at (take (i + 1) vs)) es (take (i + 1) (set ns i n))
numbered_turn k vs i v ds es ns n leaf many held p l is h =
    let same : map raw_at (take (i + 1) vs) ≡ map raw_at (take i vs) ++ raw_at v ∷ [] =
    ap (map raw_at) (take_more vs i v l ∙ ap (λ y. take i vs ++ y ∷ []) (sym is)) ∙ map-append raw_at (take i vs) (v ∷ []) in
    let this : valid k (raw_at v) ≡ true = subst (λ y. valid k (raw_at y) ≡ true) (sym is)
    (subst (λ r. valid k r ≡ true) (get_or-map raw_at vs i v raw_null l) (held i raw_null (omega (arith, length-map vs raw_at)))) in
    subst (IsNumbering k (map raw_at (take (i + 1) vs)) es) (sym (take_more_set ns i n (subst (λ m. i < m) (sym many) l)))
    (subst (λ rs. IsNumbering k rs es (take i ns ++ n ∷ [])) (sym same) (numbered_more k (map raw_at (take i vs)) ds es (take i ns) (raw_at v) n leaf p this h))

pub numbered_all : (k : LogicalType) (vs : List Value) (i : ℕ) (ds : List Raw) (ns : List ℕ) → length vs ≤ i → length ns ≡ length vs → IsNumbering k (map raw_at (take i vs)) ds (take i ns) → IsNumbering k (map raw_at vs) ds ns
numbered_all k vs i ds ns l many p =
    subst (IsNumbering k (map raw_at vs) ds) (take_all i ns (subst (λ m. m ≤ i) (sym many) l)) (subst (λ xs. IsNumbering k (map raw_at xs) ds (take i ns)) (take_all i vs l) p)

pub ruleset numbering = (none_numbered, numbered_turn, numbered_all)
