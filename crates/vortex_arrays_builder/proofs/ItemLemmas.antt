-- Values gathered from lists and structs.
use Rattle.std.proofs.Common.{◌≡◌, ◌<◌, ◌≤◌, ◌+◌, ℕ, zero, suc, List, [], ◌∷◌, ◌++◌, length, map, take, get_or, set, replicate, Option, Some, None, Bor, false, refl, sym, ap, subst, ◌∙◌, append_assoc, arith, ⊎_elim}
use Rattle.std.specs.List.{flat_map}
use Rattle.std.proofs.lemmas.List.{append-nil, length-append, length-map, map-append, take_more, get_or_append_left, get_or_push, take-append-le, take_at, take_all, take_more_set, length-set}
use Rattle.std.proofs.lemmas.List.Concat.{flat_map-append}
use Rattle.vortex_model.specs.Content.{content_of, is_null, Raw, raw_null, raw_tuple}
use Rattle.vortex_scalar_value.specs.Parts.{items_in}
use Rattle.vortex_scalar_value.specs.View.{raw_of, raw_at, raw_in, raws_in}
use Rattle.vortex_scalar_value.specs.declared.scalar_value.ScalarValue.{ScalarValue}
use Rattle.vortex_scalar_value.proofs.Nulls.{is_null-raw_of}
use Rattle.vortex_arrays_model.proofs.CanonicalLemmas.{last_or_before}
use Rattle.vortex_arrays_builder.specs.Items.{raws_listed, raw_items, fixed_items, StandEndToEnd}

abbrev Value : Type 0
Value = Option (Bor ScalarValue)

-- ---- the items of a list

listed-raws_in : (vs : List (Option ScalarValue)) → raws_listed (raws_in vs) ≡ map raw_in vs
listed-raws_in [] = refl
listed-raws_in (v ∷ vs) = ap (λ rs. raw_in v ∷ rs) (listed-raws_in vs)

pub items_there : (r : Raw) (vs : List (Option ScalarValue)) → Some (raws_in vs) ≡ items_in r → map raw_in vs ≡ raw_items r
items_there (raw_tuple rs) vs e = sym (listed-raws_in vs) ∙ ap raws_listed (let same : raws_in vs ≡ rs = cc e in same)
items_there r vs e = absurd (cc e)

pub items_none : (r : Raw) → None ≡ items_in r → [] ≡ raw_items r
items_none (raw_tuple rs) e = absurd (cc e)
items_none r e = refl

pub ruleset listed = (items_there, items_none)

-- ---- one row more

pub taken : (vs : List Value) (i : ℕ) (v : Value) → i < length vs → v ≡ get_or vs i v → map raw_at (take (i + 1) vs) ≡ map raw_at (take i vs) ++ raw_at v ∷ []
taken vs i v l e = ap (map raw_at) (take_more vs i v l ∙ ap (λ y. take i vs ++ y ∷ []) (sym e)) ∙ map-append raw_at (take i vs) (v ∷ [])

pub flat_push : (f : Raw → List Raw) (rs : List Raw) (r : Raw) → flat_map f (rs ++ r ∷ []) ≡ flat_map f rs ++ f r
flat_push f rs r = flat_map-append f rs (r ∷ []) ∙ ap (λ xs. flat_map f rs ++ xs) (append-nil (f r))

pub flat_more : (f : Raw → List Raw) (vs : List Value) (i : ℕ) (v : Value) (old new : List Raw) → old ≡ flat_map f (map raw_at (take i vs)) → i < length vs → v ≡ get_or vs i v → new ≡ old ++ f (raw_at v) → new ≡ flat_map f (map raw_at (take (i + 1) vs))
flat_more f vs i v old new h l e n = n ∙ ap (λ xs. xs ++ f (raw_at v)) h ∙ sym (flat_push f (map raw_at (take i vs)) (raw_at v)) ∙ ap (flat_map f) (sym (taken vs i v l e))

replicate_push : (k : ℕ) → replicate k raw_null ++ raw_null ∷ [] ≡ replicate (k + 1) raw_null
replicate_push zero = refl
replicate_push (suc k) = ap (λ xs. raw_null ∷ xs) (replicate_push k) ∙ ap (λ n. replicate n raw_null) (let e : suc (k + 1) ≡ suc k + 1 = omega arith in e)

pub nulls_more : (old : List Raw) (out : List Value) (i : ℕ) → map raw_at out ≡ old ++ replicate i raw_null → map raw_at (out ++ None ∷ []) ≡ old ++ replicate (i + 1) raw_null
nulls_more old out i h =
    map-append raw_at out (None ∷ []) ∙ ap (λ xs. xs ++ raw_null ∷ []) h
    ∙ append_assoc old (replicate i raw_null) (raw_null ∷ []) ∙ ap (λ xs. old ++ xs) (replicate_push i)

pub nulls_none : (old : List Raw) → old ≡ old ++ replicate 0 raw_null
nulls_none old = sym (append-nil old)

pub ruleset nulls = (nulls_more, nulls_none)

-- ---- lists end to end

abbrev begin_of : List Raw → ℕ → ℕ
begin_of rs i = length (flat_map raw_items (take i rs))

pub none_stand : StandEndToEnd [] [] []
none_stand = record { many_offsets = refl; many_sizes = refl; offset = λ i l. absurd (omega arith); size = λ i l. absurd (omega arith) }

pub one_more_stands : (rs : List Raw) (os ss : List ℕ) (r : Raw) (o s : ℕ) → StandEndToEnd rs os ss → o ≡ length (flat_map raw_items rs) → s ≡ length (raw_items r) → StandEndToEnd (rs ++ r ∷ []) (os ++ o ∷ []) (ss ++ s ∷ [])
one_more_stands rs os ss r o s h p q =
    let offset_before : (i : ℕ) → i < length rs → get_or (os ++ o ∷ []) i 0 ≡ begin_of (rs ++ r ∷ []) i = λ i l.
    get_or_append_left os (o ∷ []) 0 i (subst (λ n. i < n) (sym h.many_offsets) l) ∙ h.offset i l ∙ ap (λ xs. length (flat_map raw_items xs)) (sym (take-append-le i rs (r ∷ []) (omega arith))) in
    let offset_last : (i : ℕ) → i ≡ length rs → get_or (os ++ o ∷ []) i 0 ≡ begin_of (rs ++ r ∷ []) i = λ i e.
    get_or_push os o 0 i (h.many_offsets ∙ sym e) ∙ p ∙ ap (λ xs. length (flat_map raw_items xs)) (sym (take_at rs (r ∷ []) i (sym e))) in
    let size_before : (i : ℕ) → i < length rs → get_or (ss ++ s ∷ []) i 0 ≡ length (raw_items (get_or (rs ++ r ∷ []) i raw_null)) = λ i l.
    get_or_append_left ss (s ∷ []) 0 i (subst (λ n. i < n) (sym h.many_sizes) l) ∙ h.size i l ∙ ap (λ x. length (raw_items x)) (sym (get_or_append_left rs (r ∷ []) raw_null i l)) in
    let size_last : (i : ℕ) → i ≡ length rs → get_or (ss ++ s ∷ []) i 0 ≡ length (raw_items (get_or (rs ++ r ∷ []) i raw_null)) = λ i e.
    get_or_push ss s 0 i (h.many_sizes ∙ sym e) ∙ q ∙ ap (λ x. length (raw_items x)) (sym (get_or_push rs r raw_null i (sym e))) in
    record {
      many_offsets = length-append os (o ∷ []) ∙ ap (λ n. n + 1) h.many_offsets ∙ sym (length-append rs (r ∷ []));
      many_sizes = length-append ss (s ∷ []) ∙ ap (λ n. n + 1) h.many_sizes ∙ sym (length-append rs (r ∷ []));
      offset = λ i l. ⊎_elim (offset_before i) (offset_last i) (last_or_before i (length rs) (omega (arith, l, length-append rs (r ∷ []))));
      size = λ i l. ⊎_elim (size_before i) (size_last i) (last_or_before i (length rs) (omega (arith, l, length-append rs (r ∷ []))));
    }

-- The first i lists are end to end, and there is room for the offsets and the sizes of all.
pub record FirstStand (vs : List Value) (i : ℕ) (os ss : List ℕ) : Type 0 where
  pub many_offsets : length os ≡ length vs
  pub many_sizes : length ss ≡ length vs
  pub stand : StandEndToEnd (map raw_at (take i vs)) (take i os) (take i ss)

pub first_none : (vs : List Value) (os ss : List ℕ) → length os ≡ length vs → length ss ≡ length vs → FirstStand vs 0 os ss
first_none vs os ss p q = record { many_offsets = p; many_sizes = q; stand = none_stand }

-- The values so far, with their items, and one more value.
pub first_more : (vs : List Value) (i : ℕ) (v : Value) (os ss : List ℕ) (items : List Value) (o s : ℕ) (list : List (Option ScalarValue)) → FirstStand vs i os ss → map raw_at items ≡ flat_map raw_items (map raw_at (take i vs)) → i < length vs → v ≡ get_or vs i v → o ≡ length items → map raw_in list ≡ raw_items (raw_at v) → s ≡ length list → FirstStand vs (i + 1) (set os i o) (set ss i s)
first_more vs i v os ss items o s list h t l e p m q =
    let more = one_more_stands (map raw_at (take i vs)) (take i os) (take i ss) (raw_at v) o s h.stand (p ∙ sym (length-map items raw_at) ∙ ap length t) (q ∙ sym (length-map list raw_in) ∙ ap length m) in
    let offsets = take_more_set os i o (subst (λ n. i < n) (sym h.many_offsets) l) in
    let sizes = take_more_set ss i s (subst (λ n. i < n) (sym h.many_sizes) l) in
    record {
      many_offsets = length-set os i o ∙ h.many_offsets;
      many_sizes = length-set ss i s ∙ h.many_sizes;
      stand = rw (taken vs i v l e, offsets, sizes) more;
    }

pub first_all : (vs : List Value) (i : ℕ) (os ss : List ℕ) → length vs ≤ i → FirstStand vs i os ss → StandEndToEnd (map raw_at vs) os ss
first_all vs i os ss l h =
    subst (λ ys. StandEndToEnd (map raw_at vs) os ys) (take_all i ss (subst (λ n. n ≤ i) (sym h.many_sizes) l))
    (subst (λ ys. StandEndToEnd (map raw_at vs) ys (take i ss)) (take_all i os (subst (λ n. n ≤ i) (sym h.many_offsets) l))
    (subst (λ ys. StandEndToEnd (map raw_at ys) (take i os) (take i ss)) (take_all i vs l) h.stand))

pub ruleset lists = (first_none, first_all, flat_more)

pub ruleset fixed = (flat_more)

-- a value is never null
present : (m : ℕ) (r : Raw) → is_null (content_of r) ≡ false → raw_items r ≡ fixed_items m r
present m raw_null h = absurd (cc h)
present m r h = refl

pub fixed_present : (m : ℕ) (v : ScalarValue) → raw_items (raw_of v) ≡ fixed_items m (raw_of v)
fixed_present m v = present m (raw_of v) (is_null-raw_of v)

pub ruleset fixed_row = (fixed_present)
