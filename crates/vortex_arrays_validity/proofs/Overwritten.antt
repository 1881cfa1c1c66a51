-- Rows overwritten at the first indices.
use Rattle.std.proofs.Common.{◌≡◌, ◌≢◌, ◌<◌, ◌+◌, ◌∙◌, ℕ, pos, List, Bool, false, length, set, get_or, Some, refl, sym, ap, subst, arith, inl, inr}
use Rattle.std.proofs.lemmas.Bool.{cases_eq}
use Rattle.std.proofs.lemmas.Grind.{get_or_default_zero}
use Rattle.std.proofs.lemmas.List.{get_or-set_other, get_or-set_same, length-set}
use Rattle.vortex_model.specs.Content.{Content, null, integer}
use Rattle.vortex_arrays_model.specs.Layout.{Layout, len_of, content_at, IsCode}
use Rattle.vortex_arrays_model.specs.Parts.{AreWithin}
use Rattle.vortex_arrays_model.specs.Picks.{position_of}
use Rattle.vortex_arrays_validity.specs.Places.{place_or, places_or, IsNamedLast, IsUnnamed}
use Rattle.vortex_arrays_validity.specs.Validities.{IsLastPlace, NoPlace}
use Rattle.vortex_arrays_validity.proofs.PlaceLemmas.{place_count, place_read, row_named}

-- by the first n indices
pub record IsOverwritten (old new patches : List Bool) (places : List ℕ) (n : ℕ) : Type 0 where
  pub count : length new ≡ length old
  pub kept : (j : ℕ) → IsUnnamed places n j → get_or new j false ≡ get_or old j false
  pub overwritten : (j k : ℕ) → j < length old → IsNamedLast places n j k →
      get_or new j false ≡ get_or patches k false

pub by_none : (rows patches : List Bool) (places : List ℕ) →
    IsOverwritten rows rows patches places 0
by_none rows patches places = record {
  count = refl;
  kept = λ j h. refl;
  overwritten = λ j k small last. absurd (omega (arith, last.within));
}

-- the last of the first n + 1 indices that is j is one of the first n, unless it is the new one
is_before : (places : List ℕ) (n j k : ℕ) → k ≢ n → IsNamedLast places (n + 1) j k →
    IsNamedLast places n j k
is_before places n j k other last = record {
  within = omega (arith, last.within, other);
  names = last.names;
  last = λ l after before. last.last l after (omega (arith, before));
}

-- an index, as clauses read it
read_by_zero : (places : List ℕ) (n p : ℕ) → n < length places → p ≡ get_or places n p →
    p ≡ get_or places n 0
read_by_zero places n p l at = at ∙ get_or_default_zero places n p l

-- index n + 1 is the last
newest : (places : List ℕ) (n p j k : ℕ) → p ≡ get_or places n 0 → k ≡ n →
    IsNamedLast places (n + 1) j k → j ≡ p
newest places n p j k at e last = sym last.names ∙ ap (λ m. get_or places m 0) e ∙ sym at

-- index n + 1 is past the rows
pub by_past : (old new patches : List Bool) (places : List ℕ) (n p : ℕ) → n < length places →
    p ≡ get_or places n p → (p < length new → ⊥) → IsOverwritten old new patches places n →
    IsOverwritten old new patches places (n + 1)
by_past old new patches places n p l at past h = record {
  count = h.count;
  kept = λ j none. h.kept j (λ k before. none k (omega (arith, before)));
  overwritten = λ j k small last. h.overwritten j k small (is_before places n j k (λ e.
      let same : j ≡ p = newest places n p j k (read_by_zero places n p l at) e last in
      past (omega (arith, small, same, h.count))) last);
}

-- index n + 1 is a row
pub by_place : (old new patches : List Bool) (places : List ℕ) (n p : ℕ) → n < length places →
    p ≡ get_or places n p → p < length new → IsOverwritten old new patches places n →
    IsOverwritten old (set new p (get_or patches n false)) patches places (n + 1)
by_place old new patches places n p l at within h =
    let b : Bool = get_or patches n false in
    let is : p ≡ get_or places n 0 = read_by_zero places n p l at in
    record {
      count = length-set new p b ∙ h.count;
      kept = λ j none.
          get_or-set_other new p j b false (λ e. none n (omega arith) (sym is ∙ sym e))
          ∙ h.kept j (λ k before. none k (omega (arith, before)));
      overwritten = λ j k small last. elim (cases_eq k n) [
        | inl e ↦ ap (λ i. get_or (set new p b) i false) (newest places n p j k is e last)
            ∙ get_or-set_same new p b false within ∙ ap (λ m. get_or patches m false) (sym e)
        | inr other ↦ get_or-set_other new p j b false (λ e.
            last.last n (omega (arith, last.within, other)) (omega arith) (sym is ∙ sym e))
            ∙ h.overwritten j k small (is_before places n j k other last)
      ];
    }

pub ruleset steps = (by_none, by_past, by_place)

-- ---- the indices of an array, each null or below n, as a list

place_of_position : (n : ℕ) (c : Content) (j : ℕ) → IsCode n c → position_of c ≡ Some j →
    place_or n c ≡ j
place_of_position n null j h e = absurd (cc (e))
place_of_position n (integer (pos i)) j h e = cc (e)
place_of_position n c j h e = absurd h

listed : (a : Layout) (n : ℕ) (places : List ℕ) (k j : ℕ) → places ≡ places_or n a →
    AreWithin a n → k < len_of a → position_of (content_at a k) ≡ Some j → get_or places k 0 ≡ j
listed a n places k j e h l at = ap (λ xs. get_or xs k 0) e ∙ place_read n a k 0 l
    ∙ place_of_position n (content_at a k) j (h k l) at

position : (a : Layout) (n : ℕ) (places : List ℕ) (k j : ℕ) → places ≡ places_or n a →
    AreWithin a n → k < length places → j < n → get_or places k 0 ≡ j →
    position_of (content_at a k) ≡ Some j
position a n places k j e h l small at =
    let read : j ≡ get_or places k j = sym (get_or_default_zero places k j l ∙ at) in
    ap position_of (row_named a n places k j e h l read small)

pub count_listed : (a : Layout) (n : ℕ) (places : List ℕ) → places ≡ places_or n a →
    length places ≡ len_of a
count_listed a n places e = ap length e ∙ place_count n a

pub none_listed : (a : Layout) (n : ℕ) (places : List ℕ) (j : ℕ) → places ≡ places_or n a →
    AreWithin a n → j < n → NoPlace a (len_of a) j → IsUnnamed places (length places) j
none_listed a n places j e h small none = λ k l at.
    let inside : k < len_of a = subst (λ m. k < m) (count_listed a n places e) l in
    none k inside (position a n places k j e h l small at)

pub last_listed : (a : Layout) (n : ℕ) (places : List ℕ) (j k : ℕ) → places ≡ places_or n a →
    AreWithin a n → j < n → IsLastPlace a (len_of a) j k → IsNamedLast places (length places) j k
last_listed a n places j k e h small last =
    let count : length places ≡ len_of a = count_listed a n places e in
    record {
      within = subst (λ m. k < m) (sym count) last.within;
      names = listed a n places k j e h last.within last.names;
      last = λ l after before at.
          last.last l after (subst (λ m. l < m) count before)
          (position a n places l j e h before small at);
    }
