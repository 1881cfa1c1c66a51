-- A value whose first bytes are not those of a pattern doesn't match it.
use Rattle.std.proofs.Common.{◌≡◌, refl, sym, ap, ◌∙◌, ℕ, zero, suc, ◌≤◌, Bool, true, false, not, ◌&&◌, ◌==◌, cond, if◌then◌else◌, Some, None, List, [], ◌∷◌, length, take, drop, get_or, arith, inl, inr, eqb-true}
use Rattle.std.specs.List.{list_all}
use Rattle.std.specs.Int.{w32, from_be_bytes}
use Rattle.std.specs.Prelude.{leb}
use Rattle.std.proofs.lemmas.Bool.{cases_lt, eq-eqb, leb-true, and_parts, not-true}
use Rattle.vortex_model.proofs.Lists.{length_take}
use Rattle.vortex_arrays_view.specs.Views.{size_of, value_of}
use Rattle.vortex_arrays_view.specs.Made.{prefix_in, order_prefix_in, order_prefix_of}
use Rattle.vortex_arrays_view.proofs.Made.{value_short}
use Rattle.vortex_arrays_view.proofs.Padding.{padded_long}
use Rattle.vortex_stats_match.specs.Bytes.{byte_matches, goes_on, past_char, left_by, is_left}
use Rattle.vortex_stats_match.proofs.SignLemmas.{plain_sign}
use Rattle.vortex_stats_match.specs.Heads.{HasHead}
use Rattle.vortex_stats_match.specs.Fronts.{is_plain, begins_plain, admits, match_by_head}

-- ---- a string that matches begins as the pattern does

-- a string that a plain byte matches begins with it
plain_taken : (a : ℕ) (form t : List ℕ) → is_plain a ≡ true → byte_matches (a ∷ form) t ≡ true →
    (rest : List ℕ) × (t ≡ a ∷ rest) × (byte_matches form rest ≡ true)
plain_taken a form t plain e = taken t (sym (plain_sign a form t (not-true _ signs.0)) ∙ e)
  where
    signs : (not (a == 37) ≡ true) × (not (a == 95) ≡ true)
    signs = and_parts _ _ plain

    here : (b : ℕ) (rest : List ℕ) (same : Bool) → (a == b) ≡ same → is_left (byte_matches form) (if same then Some rest else None) ≡ true →
        (left : List ℕ) × (b ∷ rest ≡ a ∷ left) × (byte_matches form left ≡ true)
    here b rest true q f = (rest, ap (λ x. x ∷ rest) (sym (eqb-true a b q)), f)
    here b rest false q f = absurd (cc f)

    taken : (t : List ℕ) → is_left (byte_matches form) (left_by a t) ≡ true → (rest : List ℕ) × (t ≡ a ∷ rest) × (byte_matches form rest ≡ true)
    taken [] f = absurd (cc f)
    taken (b ∷ rest) f =
        here b rest (a == b) refl
        (ap (λ s. is_left (byte_matches form) (if s then (if goes_on b then None else Some (past_char rest)) else (if a == b then Some rest else None))) (sym (not-true _ signs.1)) ∙ f)

pub plain_front : (n : ℕ) (form t : List ℕ) → n ≤ length form → list_all is_plain (take n form) ≡ true → byte_matches form t ≡ true →
    (take n t ≡ take n form) × (n ≤ length t)
plain_front zero form t h plain e = (refl, omega arith)
plain_front (suc n) [] t h plain e = absurd (omega (arith, h))
plain_front (suc n) (a ∷ form) t h plain e =
    let parts = and_parts _ _ plain in
    let taken = plain_taken a form t parts.0 e in
    let rest = plain_front n form taken.0 (omega (arith, h)) parts.1 taken.2 in
    let many : length t ≡ length (a ∷ taken.0) = ap length taken.1 in
    let more = rest.1 in (
      ap (take (suc n)) taken.1 ∙ ap (λ r. a ∷ r) rest.0,
      omega (arith, many, more),
    )

-- ---- what the view shows of it

length_value : (v : List ℕ) (buffers : List (List ℕ)) → length (value_of v buffers) ≤ size_of v
length_value v buffers = by (leb (size_of v) 12) _ _ (length_take (size_of v) _) (length_take (size_of v) _)
  where
    by : (b : Bool) (xs ys : List ℕ) → length xs ≤ size_of v → length ys ≤ size_of v → length (cond b xs ys) ≤ size_of v
    by true xs ys h k = h
    by false xs ys h k = k

first_of_take : (n : ℕ) (xs : List ℕ) → 1 ≤ n → get_or (take n xs) 0 0 ≡ get_or xs 0 0
first_of_take zero xs h = absurd (omega (arith, h))
first_of_take (suc n) [] h = refl
first_of_take (suc n) (x ∷ xs) h = refl

module _ (form v : List ℕ) (buffers : List (List ℕ)) (head : HasHead v buffers) (e : byte_matches form (value_of v buffers) ≡ true) where
  first_shown : 1 ≤ size_of v → get_or (prefix_in v) 0 0 ≡ get_or (value_of v buffers) 0 0
  first_shown some = elim (cases_lt (size_of v) 4) [
    | inl brief ↦
        first_of_take 4 (drop 4 v) (omega arith) ∙ sym (first_of_take (size_of v) (drop 4 v) some)
        ∙ ap (λ xs. get_or xs 0 0) (sym (value_short v buffers (omega (arith, brief))))
    | inr four ↦ ap (λ xs. get_or xs 0 0) (head four) ∙ first_of_take 4 (value_of v buffers) (omega arith)
  ]

  by_one : begins_plain 1 form ≡ true → (get_or (prefix_in v) 0 0 == get_or form 0 0) ≡ true
  by_one plain =
      let parts = and_parts _ _ plain in let within = leb-true 1 (length form) parts.0 in
      let same = plain_front 1 form (value_of v buffers) within parts.1 e in
      let most = length_value v buffers in let least = same.1 in
      eq-eqb _ _ (first_shown (omega (arith, most, least))
      ∙ sym (first_of_take 1 (value_of v buffers) (omega arith)) ∙ ap (λ xs. get_or xs 0 0) same.0 ∙ first_of_take 1 form (omega arith))

  by_four : begins_plain 4 form ≡ true → (order_prefix_in v == order_prefix_of form) ≡ true
  by_four plain =
      let parts = and_parts _ _ plain in let within = leb-true 4 (length form) parts.0 in
      let same = plain_front 4 form (value_of v buffers) within parts.1 e in
      let most = length_value v buffers in let least = same.1 in
      eq-eqb _ _ (ap (from_be_bytes w32) (head (omega (arith, most, least)) ∙ same.0 ∙ sym (padded_long 4 form within)))

  admitted : admits form v ≡ true
  admitted = of_four (begins_plain 4 form) refl
    where
      of_one : (b : Bool) → begins_plain 1 form ≡ b → cond b (get_or (prefix_in v) 0 0 == get_or form 0 0) true ≡ true
      of_one true q = by_one q
      of_one false q = refl

      of_four : (b : Bool) → begins_plain 4 form ≡ b →
          cond b (order_prefix_in v == order_prefix_of form) (cond (begins_plain 1 form) (get_or (prefix_in v) 0 0 == get_or form 0 0) true) ≡ true
      of_four true q = by_four q
      of_four false q = of_one (begins_plain 1 form) refl

-- of a view that has the first bytes of its value they make no match that there isn't, and miss
-- none
pub match_is : (form v : List ℕ) (buffers : List (List ℕ)) → HasHead v buffers → match_by_head form v buffers ≡ byte_matches form (value_of v buffers)
match_is form v buffers head = by (byte_matches form (value_of v buffers)) refl
  where
    none : (a : Bool) → (a && false) ≡ false
    none true = refl
    none false = refl

    by : (b : Bool) → byte_matches form (value_of v buffers) ≡ b → (admits form v && b) ≡ b
    by true q = ap (λ a. a && true) (admitted form v buffers head q)
    by false q = none (admits form v)
