-- What holds on the way through the piece of a LIKE pattern before its first %, and where it begins.
use Rattle.std.proofs.Common.{◌≡◌, refl, sym, ap, ◌∙◌, ℕ, ◌+◌, ◌-◌, ◌≤◌, List, [], ◌∷◌, length, drop, true, false, ◌||◌, ◌==◌, if◌then◌else◌, Option, Some, None, arith}
use Rattle.std.proofs.lemmas.Bool.{eq-eqb}
use Rattle.std.proofs.lemmas.List.{drop-drop}
use Rattle.std.specs.Cmp.{both_ways}
use Rattle.vortex_model_table.specs.Like.{some_end}
use Rattle.vortex_stats_match.specs.Bytes.{left_by, is_left, byte_matches}
use Rattle.vortex_stats_match.specs.Pieces.{IsWildcard, behind_any}
use Rattle.vortex_stats_match.proofs.SignLemmas.{first_end, end_of_drop, found_end, plain_sign, empty_form, width, left_is_drop, no_earlier}

-- So far the piece has taken some bytes. What the pattern makes of the string is what its
-- rest makes of the rest; and wherever else the pattern matches, its rest matches no earlier.
pub record IsWalked (form value signs left : List ℕ) : Type 0 where
  pub taken : ℕ
  pub rest : left ≡ drop taken value
  pub here : byte_matches form value ≡ byte_matches signs left
  pub later : (k : ℕ) → byte_matches form (drop k value) ≡ true → (j : ℕ) × (taken ≤ j) × (byte_matches signs (drop j value) ≡ true)
  pub shorter : length signs ≤ length form
  pub behind_it : behind_any form ≡ behind_any signs

pub walk_start : (form value : List ℕ) → IsWalked form value form value
walk_start form value = record { taken = 0; rest = refl; here = refl; later = λ k e. (k, omega arith, e); shorter = omega arith; behind_it = refl }

pub walk_on : (form value signs left behind rest : List ℕ) (a : ℕ) → IsWalked form value signs left
    → signs ≡ a ∷ behind → (a == 37) ≡ false → left_by a left ≡ Some rest → IsWalked form value behind rest
walk_on form value signs left behind rest a w p plain q = record {
  taken = w.taken + width a left;
  rest = left_is_drop a left rest q ∙ ap (drop (width a left)) w.rest ∙ drop-drop (width a left) w.taken value;
  here = w.here ∙ ap (λ s. byte_matches s left) p ∙ plain_sign a behind left plain ∙ ap (is_left (byte_matches behind)) q;
  later = λ k e. let at = w.later k e in on at.0 at.1 (ap (λ s. byte_matches s (drop at.0 value)) (sym p) ∙ at.2);
  shorter = omega (arith, w.shorter, ap length p);
  behind_it = w.behind_it ∙ ap behind_any p ∙ ap (λ b. if b then behind else behind_any behind) plain;
}
  where
    moved : (j : ℕ) → w.taken ≤ j → drop (j - w.taken) left ≡ drop j value
    moved j le = ap (drop (j - w.taken)) w.rest ∙ drop-drop (j - w.taken) w.taken value ∙ ap (λ n. drop n value) (omega (arith, le))

    goes : (j : ℕ) → w.taken ≤ j → (o : Option (List ℕ)) → left_by a (drop j value) ≡ o → is_left (byte_matches behind) o ≡ true
        → (i : ℕ) × (w.taken + width a left ≤ i) × (byte_matches behind (drop i value) ≡ true)
    goes j le None f e = absurd (cc e)
    goes j le (Some l) f e = (
      j + width a (drop j value),
      omega (arith, le, no_earlier a (j - w.taken) left l (ap (left_by a) (moved j le) ∙ f), ap (width a) (moved j le)),
      ap (byte_matches behind) (sym (left_is_drop a (drop j value) l f ∙ drop-drop (width a (drop j value)) j value)) ∙ e,
    )

    on : (j : ℕ) → w.taken ≤ j → byte_matches (a ∷ behind) (drop j value) ≡ true
        → (i : ℕ) × (w.taken + width a left ≤ i) × (byte_matches behind (drop i value) ≡ true)
    on j le e = goes j le (left_by a (drop j value)) refl (sym (plain_sign a behind (drop j value) plain) ∙ e)

pub walk_missed : (form value signs left behind : List ℕ) (a : ℕ) → IsWalked form value signs left
    → signs ≡ a ∷ behind → (a == 37) ≡ false → left_by a left ≡ None → byte_matches form value ≡ false
walk_missed form value signs left behind a w p plain none =
    w.here ∙ ap (λ s. byte_matches s left) p ∙ plain_sign a behind left plain ∙ ap (is_left (byte_matches behind)) none

pub none_left : (xs : List ℕ) → length xs ≡ 0 → xs ≡ []
none_left [] e = refl
none_left (x ∷ xs) e = absurd (omega (arith, e))

pub walk_ended : (form value signs left : List ℕ) → IsWalked form value signs left → length signs ≡ 0
    → byte_matches form value ≡ (length left == 0)
walk_ended form value signs left w p = w.here ∙ ap (λ s. byte_matches s left) (none_left signs p) ∙ empty_form left

pub walk_wildcard : (form value signs left behind : List ℕ) (a : ℕ) → IsWalked form value signs left
    → signs ≡ a ∷ behind → a ≡ 37 → IsWildcard form value behind left
walk_wildcard form value signs left behind a w p is = record {
  here = here;
  later = both_ways _ _
      (λ e. let k = found_end (byte_matches form) value e in
      let at = w.later k.0 k.1 in
      end_of_drop (byte_matches behind) (at.0 - w.taken) left
      (ap (some_end (byte_matches behind)) (moved at.0 at.1) ∙ sym (reads (drop at.0 value)) ∙ at.2))
      (λ e. first_end (byte_matches form) value (here ∙ e));
  shorter = omega (arith, w.shorter, ap length p);
  is = sym (w.behind_it ∙ ap behind_any p ∙ ap (λ b. if b then behind else behind_any behind) (eq-eqb a 37 is));
}
  where
    reads : (other : List ℕ) → byte_matches signs other ≡ some_end (byte_matches behind) other
    reads other = ap (λ s. byte_matches s other) (p ∙ ap (λ b. b ∷ behind) is)

    here : byte_matches form value ≡ some_end (byte_matches behind) left
    here = w.here ∙ reads left

    moved : (j : ℕ) → w.taken ≤ j → drop (j - w.taken) left ≡ drop j value
    moved j le = ap (drop (j - w.taken)) w.rest ∙ drop-drop (j - w.taken) w.taken value ∙ ap (λ n. drop n value) (omega (arith, le))

-- ---- the ends of a string

empty_end : (bs : List ℕ) → some_end (byte_matches []) bs ≡ true
empty_end [] = refl
empty_end (b ∷ bs) = empty_end bs

pub any_end : (form value : List ℕ) → length form ≡ 0 → some_end (byte_matches form) value ≡ true
any_end form value none = ap (λ s. some_end (byte_matches s) value) (none_left form none) ∙ empty_end value

pub no_end : (form value : List ℕ) → length value ≡ 0 → byte_matches form value ≡ false → some_end (byte_matches form) value ≡ false
no_end form value none e =
    ap (some_end (byte_matches form)) (none_left value none) ∙ sym (ap (byte_matches form) (none_left value none)) ∙ e

pub next_end : (form value rest : List ℕ) (b : ℕ) → value ≡ b ∷ rest → byte_matches form value ≡ false
    → some_end (byte_matches form) value ≡ some_end (byte_matches form) rest
next_end form value rest b p e =
    ap (some_end (byte_matches form)) p ∙ ap (λ t. t || some_end (byte_matches form) rest) (sym (ap (byte_matches form) p) ∙ e)
