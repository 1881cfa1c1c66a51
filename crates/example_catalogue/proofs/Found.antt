-- The partition at an index of a vector is that of its number.
use Rattle.std.proofs.Common.{◌≡◌, refl, sym, ◌∙◌, ap, ℕ, zero, suc, ◌+◌, ◌<◌, ◌||◌, ◌++◌, List, [], ◌∷◌, Bool, true, false, if◌then◌else◌, Some, None, length, map, get_or, set, remove, arith}
use Rattle.std.specs.List.{position, position_from, list_any}
use Rattle.std.proofs.lemmas.List.Quantifiers.{position-Some}
use Rattle.std.proofs.lemmas.Iterator.Adapters.{position_from-zero}
use Rattle.vortex_scalar_value.specs.declared.scalar_value.ScalarValue.{ScalarValue}
use Rattle.vortex_stats_bound.specs.declared.precision.Precision as declared
use Rattle.vortex_stats_expr.specs.declared.stat.Stat.{Stat}
use Rattle.vortex_stats_set.specs.Known.{raw_pairs}
use Rattle.vortex_stats_set.specs.Pairs.{Pairs}
use Rattle.example_catalogue.specs.Catalogued.{raw_partitions}
use Rattle.example_catalogue.specs.Partitions.{Partitions, is_at, at_number, placed, dropped}

or_left : (b c : Bool) → (b || c) ≡ false → b ≡ false
or_left false c h = refl
or_left true c h = absurd (cc (h))

or_right : (b c : Bool) → (b || c) ≡ false → c ≡ false
or_right false c h = h
or_right true c h = absurd (cc (h))

no_place : {X : Type 0} (p : X → Bool) (xs : List X) (i : ℕ) → position_from p i xs ≡ None → list_any p xs ≡ false
no_place p [] i h = refl
no_place {X} p (x ∷ xs) i h = at (p x) h (λ q. no_place p xs (i + 1) q)
  where
    at : (b : Bool) → (if b then Some i else position_from p (i + 1) xs) ≡ None →
        (position_from p (i + 1) xs ≡ None → list_any p xs ≡ false) → (b || list_any p xs) ≡ false
    at true q rest = absurd (cc (q))
    at false q rest = rest q

module _ {A B : Type 0} (f : A → B) where
  abbrev pub mapped : Partitions A → Partitions B
  mapped es = map (λ e. (e.0, f e.1)) es

  -- the first at this index
  abbrev IsFirstAt : Partitions A → ℕ → ℕ → ℕ × A → Type 0
  IsFirstAt es n i d = (i < length es) × (is_at n (get_or es i d) ≡ true) × ((k : ℕ) → k < i → is_at n (get_or es k d) ≡ false)

  value_at : (es : Partitions A) (n i : ℕ) (d : ℕ × A) → IsFirstAt es n i d → at_number (mapped es) n ≡ Some (f (get_or es i d).1)
  value_at [] n i d h = absurd (let l = h.0 in omega (arith, l))
  value_at (e ∷ es) n zero d h = ap (λ b. if b then Some (f e.1) else at_number (mapped es) n) h.1
  value_at (e ∷ es) n (suc i) d h =
      ap (λ b. if b then Some (f e.1) else at_number (mapped es) n) (h.2 zero (omega arith))
      ∙ value_at es n i d (let l = h.0 in omega (arith, l), h.1, λ k m. h.2 (suc k) (omega (arith, m)))

  place_at : (es : Partitions A) (n i : ℕ) (d : ℕ × A) (a : A) → IsFirstAt es n i d → mapped (set es i ((get_or es i d).0, a)) ≡ placed (mapped es) n (f a)
  place_at [] n i d a h = absurd (let l = h.0 in omega (arith, l))
  place_at (e ∷ es) n zero d a h = sym (ap (λ b. if b then (e.0, f a) ∷ mapped es else (e.0, f e.1) ∷ placed (mapped es) n (f a)) h.1)
  place_at (e ∷ es) n (suc i) d a h =
      ap (λ rest. (e.0, f e.1) ∷ rest) (place_at es n i d a (let l = h.0 in omega (arith, l), h.1, λ k m. h.2 (suc k) (omega (arith, m))))
      ∙ sym (ap (λ b. if b then (e.0, f a) ∷ mapped es else (e.0, f e.1) ∷ placed (mapped es) n (f a)) (h.2 zero (omega arith)))

  drop_at : (es : Partitions A) (n i : ℕ) (d : ℕ × A) → IsFirstAt es n i d → mapped (remove es i) ≡ dropped (mapped es) n
  drop_at [] n i d h = absurd (let l = h.0 in omega (arith, l))
  drop_at (e ∷ es) n zero d h = sym (ap (λ b. if b then mapped es else (e.0, f e.1) ∷ dropped (mapped es) n) h.1)
  drop_at (e ∷ es) n (suc i) d h =
      ap (λ rest. (e.0, f e.1) ∷ rest) (drop_at es n i d (let l = h.0 in omega (arith, l), h.1, λ k m. h.2 (suc k) (omega (arith, m))))
      ∙ sym (ap (λ b. if b then mapped es else (e.0, f e.1) ∷ dropped (mapped es) n) (h.2 zero (omega arith)))

  pub found_value : (es : Partitions A) (n i : ℕ) (d : ℕ × A) → position (is_at n) es ≡ Some i → at_number (mapped es) n ≡ Some (f (get_or es i d).1)
  found_value es n i d at = value_at es n i d (position-Some (is_at n) es i d at)

  pub found_place : (es : Partitions A) (n i : ℕ) (d : ℕ × A) (a : A) → position (is_at n) es ≡ Some i → mapped (set es i ((get_or es i d).0, a)) ≡ placed (mapped es) n (f a)
  found_place es n i d a at = place_at es n i d a (position-Some (is_at n) es i d at)

  pub found_drop : (es : Partitions A) (n i : ℕ) → position (is_at n) es ≡ Some i → mapped (remove es i) ≡ dropped (mapped es) n
  found_drop [] n i at = absurd (cc (at))
  found_drop (e ∷ es) n i at = drop_at (e ∷ es) n i e (position-Some (is_at n) (e ∷ es) i e at)

  pub within : (es : Partitions A) (n i : ℕ) → position (is_at n) es ≡ Some i → i < length es
  within [] n i at = absurd (cc (at))
  within (e ∷ es) n i at = (position-Some (is_at n) (e ∷ es) i e at).0

  none_value : (es : Partitions A) (n : ℕ) → list_any (is_at n) es ≡ false → at_number (mapped es) n ≡ None
  none_value [] n h = refl
  none_value (e ∷ es) n h =
      ap (λ b. if b then Some (f e.1) else at_number (mapped es) n) (or_left (is_at n e) (list_any (is_at n) es) h)
      ∙ none_value es n (or_right (is_at n e) (list_any (is_at n) es) h)

  none_place : (es : Partitions A) (n : ℕ) (b : B) → list_any (is_at n) es ≡ false → mapped es ≡ placed (mapped es) n b
  none_place [] n b h = refl
  none_place (e ∷ es) n b h =
      ap (λ rest. (e.0, f e.1) ∷ rest) (none_place es n b (or_right (is_at n e) (list_any (is_at n) es) h))
      ∙ sym (ap (λ t. if t then (e.0, b) ∷ mapped es else (e.0, f e.1) ∷ placed (mapped es) n b) (or_left (is_at n e) (list_any (is_at n) es) h))

  none_drop : (es : Partitions A) (n : ℕ) → list_any (is_at n) es ≡ false → mapped es ≡ dropped (mapped es) n
  none_drop [] n h = refl
  none_drop (e ∷ es) n h =
      ap (λ rest. (e.0, f e.1) ∷ rest) (none_drop es n (or_right (is_at n e) (list_any (is_at n) es) h))
      ∙ sym (ap (λ t. if t then mapped es else (e.0, f e.1) ∷ dropped (mapped es) n) (or_left (is_at n e) (list_any (is_at n) es) h))

  no_one : (es : Partitions A) (n : ℕ) → position (is_at n) es ≡ None → list_any (is_at n) es ≡ false
  no_one es n at = no_place (is_at n) es 0 (sym (position_from-zero (is_at n) es) ∙ at)

  pub lost_value : (es : Partitions A) (n : ℕ) → position (is_at n) es ≡ None → at_number (mapped es) n ≡ None
  lost_value es n at = none_value es n (no_one es n at)

  pub lost_place : (es : Partitions A) (n : ℕ) (b : B) → position (is_at n) es ≡ None → mapped es ≡ placed (mapped es) n b
  lost_place es n b at = none_place es n b (no_one es n at)

  pub lost_drop : (es : Partitions A) (n : ℕ) → position (is_at n) es ≡ None → mapped es ≡ dropped (mapped es) n
  lost_drop es n at = none_drop es n (no_one es n at)

  pub push_mapped : (es : Partitions A) (n : ℕ) (a : A) → mapped (es ++ (n, a) ∷ []) ≡ mapped es ++ (n, f a) ∷ []
  push_mapped [] n a = refl
  push_mapped (e ∷ es) n a = ap (λ rest. (e.0, f e.1) ∷ rest) (push_mapped es n a)

-- ---- of a catalogue

abbrev Set : Type 0
Set = List (Stat × declared.Precision ScalarValue)

pub raw_value : (es : Partitions Set) (n i : ℕ) (d : ℕ × Set) → position (is_at n) es ≡ Some i →
    at_number (raw_partitions es) n ≡ Some (raw_pairs (get_or es i d).1)
raw_value es n i d at = found_value raw_pairs es n i d at

pub raw_place : (es : Partitions Set) (n i : ℕ) (d : ℕ × Set) (a : Set) → position (is_at n) es ≡ Some i →
    raw_partitions (set es i ((get_or es i d).0, a)) ≡ placed (raw_partitions es) n (raw_pairs a)
raw_place es n i d a at = found_place raw_pairs es n i d a at

pub raw_drop : (es : Partitions Set) (n i : ℕ) → position (is_at n) es ≡ Some i →
    raw_partitions (remove es i) ≡ dropped (raw_partitions es) n
raw_drop es n i at = found_drop raw_pairs es n i at

pub raw_within : (es : Partitions Set) (n i : ℕ) → position (is_at n) es ≡ Some i → i < length es
raw_within es n i at = within raw_pairs es n i at

pub raw_no_value : (es : Partitions Set) (n : ℕ) → position (is_at n) es ≡ None → at_number (raw_partitions es) n ≡ None
raw_no_value es n at = lost_value raw_pairs es n at

pub raw_no_place : (es : Partitions Set) (n : ℕ) (b : Pairs) → position (is_at n) es ≡ None →
    raw_partitions es ≡ placed (raw_partitions es) n b
raw_no_place es n b at = lost_place raw_pairs es n b at

pub raw_no_drop : (es : Partitions Set) (n : ℕ) → position (is_at n) es ≡ None →
    raw_partitions es ≡ dropped (raw_partitions es) n
raw_no_drop es n at = lost_drop raw_pairs es n at

pub raw_push : (es : Partitions Set) (n : ℕ) (a : Set) → raw_partitions (es ++ (n, a) ∷ []) ≡ raw_partitions es ++ (n, raw_pairs a) ∷ []
raw_push es n a = push_mapped raw_pairs es n a

pub ruleset found = (raw_value, raw_place, raw_drop, raw_within, raw_no_value, raw_no_place, raw_no_drop, raw_push)
