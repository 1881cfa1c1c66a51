-- Laws of LIKE patterns over bytes: what a sign takes, and ends of a string.
use Rattle.std.proofs.Common.{◌≡◌, refl, sym, ap, ◌∙◌, subst, ℕ, suc, zero, ◌+◌, ◌≤◌, List, [], ◌∷◌, length, drop, Bool, true, false, ◌||◌, ◌==◌, cond, if◌then◌else◌, Some, None, arith}
use Rattle.std.proofs.lemmas.Bool.{eq-eqb, ne_eqb}
use Rattle.vortex_model_table.specs.Like.{some_end}
use Rattle.vortex_stats_match.specs.Bytes.{goes_on, past_char, left_by, is_left, byte_matches}

-- ---- ends

pub first_end : (p : List ℕ → Bool) (xs : List ℕ) → p xs ≡ true → some_end p xs ≡ true
first_end p [] e = e
first_end p (x ∷ xs) e = ap (λ b. b || some_end p xs) e

pub end_of_drop : (p : List ℕ → Bool) (k : ℕ) (xs : List ℕ) → some_end p (drop k xs) ≡ true → some_end p xs ≡ true
end_of_drop p zero xs e = e
end_of_drop p (suc k) [] e = e
end_of_drop p (suc k) (x ∷ xs) e = ap (λ b. p (x ∷ xs) || b) (end_of_drop p k xs e) ∙ or_true (p (x ∷ xs))
  where
    or_true : (b : Bool) → b || true ≡ true
    or_true true = refl
    or_true false = refl

pub found_end : (p : List ℕ → Bool) (xs : List ℕ) → some_end p xs ≡ true → (k : ℕ) × (p (drop k xs) ≡ true)
found_end p [] e = (0, e)
found_end p (x ∷ xs) e = by_first (p (x ∷ xs)) refl (λ f. found_end p xs f) e
  where
    by_first : (b : Bool) → p (x ∷ xs) ≡ b → (some_end p xs ≡ true → (k : ℕ) × (p (drop k xs) ≡ true)) → b || some_end p xs ≡ true
        → (k : ℕ) × (p (drop k (x ∷ xs)) ≡ true)
    by_first true q find f = (0, q)
    by_first false q find f = (suc (find f).0, (find f).1)

-- ---- what a sign takes

-- a sign that is no % matches where what it leaves matches the rest
pub plain_sign : (a : ℕ) (form bs : List ℕ) → (a == 37) ≡ false → byte_matches (a ∷ form) bs ≡ is_left (byte_matches form) (left_by a bs)
plain_sign a form bs plain = ap (λ b. if b then some_end (byte_matches form) bs else is_left (byte_matches form) (left_by a bs)) plain

pub empty_form : (bs : List ℕ) → byte_matches [] bs ≡ (length bs == 0)
empty_form [] = refl
empty_form (b ∷ bs) = sym (ne_eqb (length (b ∷ bs)) 0 (omega arith))

-- the number of bytes that go on with the character that began before
abbrev pub inners : List ℕ → ℕ
inners [] = 0
inners (b ∷ bs) = cond (goes_on b) (suc (inners bs)) 0

pub past_is_drop : (bs : List ℕ) → past_char bs ≡ drop (inners bs) bs
past_is_drop [] = refl
past_is_drop (b ∷ bs) = by (goes_on b) (past_is_drop bs)
  where
    by : (t : Bool) → past_char bs ≡ drop (inners bs) bs → cond t (past_char bs) (b ∷ bs) ≡ drop (cond t (suc (inners bs)) 0) (b ∷ bs)
    by true h = h
    by false h = refl

pub inners_within : (e : ℕ) (ys : List ℕ) (b : ℕ) (bs : List ℕ) → drop e ys ≡ b ∷ bs → goes_on b ≡ false → inners ys ≤ e
inners_within zero ys b bs e out = none_fits (ap inners e ∙ ap (λ t. cond t (suc (inners bs)) 0) out)
  where
    none_fits : {n : ℕ} → n ≡ 0 → n ≤ 0
    none_fits h = omega (arith, h)
inners_within (suc n) [] b bs e out = omega arith
inners_within (suc n) (y ∷ ys) b bs e out = by (goes_on y) (inners_within n ys b bs e out)
  where
    by : (t : Bool) → inners ys ≤ n → cond t (suc (inners ys)) 0 ≤ suc n
    by true h = omega (arith, h)
    by false h = omega arith

-- how many bytes the sign takes
abbrev pub width : ℕ → List ℕ → ℕ
width a [] = 0
width a (b ∷ bs) = if a == 95 then suc (inners bs) else 1

pub left_is_drop : (a : ℕ) (xs l : List ℕ) → left_by a xs ≡ Some l → l ≡ drop (width a xs) xs
left_is_drop a [] l e = absurd (cc e)
left_is_drop a (b ∷ bs) l e = by (a == 95) (goes_on b) (a == b) e
  where
    some_same : {x y : List ℕ} → Some x ≡ Some y → x ≡ y
    some_same f = cc f

    by : (s o t : Bool) → (if s then (if o then None else Some (past_char bs)) else (if t then Some bs else None)) ≡ Some l
        → l ≡ drop (if s then suc (inners bs) else 1) (b ∷ bs)
    by true true t f = absurd (cc f)
    by true false t f = some_same (sym f) ∙ past_is_drop bs
    by false o true f = some_same (sym f)
    by false o false f = absurd (cc f)

-- Where the sign takes something further on, it ends no earlier.
pub no_earlier : (a d : ℕ) (xs l : List ℕ) → left_by a (drop d xs) ≡ Some l → width a xs ≤ d + width a (drop d xs)
no_earlier a zero xs l e = at_once (width a xs)
  where
    at_once : (n : ℕ) → n ≤ 0 + n
    at_once n = omega arith
no_earlier a (suc d) [] l e = absurd (cc e)
no_earlier a (suc d) (y ∷ ys) l e = by (a == 95) refl
  where
    begun : (zs : List ℕ) → drop d ys ≡ zs → (a == 95) ≡ true → left_by a zs ≡ Some l → inners ys ≤ d
    begun [] q s f = absurd (cc f)
    begun (b ∷ bs) q s f =
        inners_within d ys b bs q (begins (goes_on b) (a == b) (subst (λ t. (if t then (if goes_on b then None else Some (past_char bs)) else (if a == b then Some bs else None)) ≡ Some l) s f))
      where
        begins : (o t : Bool) → (if o then None else Some (past_char bs)) ≡ Some l → o ≡ false
        begins true t g = absurd (cc g)
        begins false t g = refl

    by : (s : Bool) → (a == 95) ≡ s → (if s then suc (inners ys) else 1) ≤ suc d + width a (drop d ys)
    by true s = omega (arith, begun (drop d ys) refl s e)
    by false s = omega arith

-- ---- by cases of the string

pub past_here : (bs rest : List ℕ) (b : ℕ) → bs ≡ b ∷ rest → goes_on b ≡ false → past_char bs ≡ bs
past_here bs rest b e out = ap past_char e ∙ ap (λ t. cond t (past_char rest) (b ∷ rest)) out ∙ sym e

pub past_more : (bs rest : List ℕ) (b : ℕ) → bs ≡ b ∷ rest → goes_on b ≡ true → past_char bs ≡ past_char rest
past_more bs rest b e goes = ap past_char e ∙ ap (λ t. cond t (past_char rest) (b ∷ rest)) goes

pub past_none : (bs : List ℕ) → length bs ≡ 0 → past_char bs ≡ bs
past_none [] e = refl
past_none (b ∷ bs) e = absurd (omega (arith, e))

pub left_none : (a : ℕ) (bs : List ℕ) → length bs ≡ 0 → None ≡ left_by a bs
left_none a [] e = refl
left_none a (b ∷ bs) e = absurd (omega (arith, e))

module _ (a b : ℕ) (bs rest : List ℕ) (e : bs ≡ b ∷ rest) where
  cases_of : left_by a bs ≡ (if a == 95 then (if goes_on b then None else Some (past_char rest)) else (if a == b then Some rest else None))
  cases_of = ap (left_by a) e

  any_of : a ≡ 95 → left_by a bs ≡ (if goes_on b then None else Some (past_char rest))
  any_of is = cases_of ∙ ap (λ s. if s then (if goes_on b then None else Some (past_char rest)) else (if a == b then Some rest else None)) (eq-eqb a 95 is)

  this_of : (a ≡ 95 → ⊥) → left_by a bs ≡ (if a == b then Some rest else None)
  this_of other = cases_of ∙ ap (λ s. if s then (if goes_on b then None else Some (past_char rest)) else (if a == b then Some rest else None)) (ne_eqb a 95 other)

  pub left_inside : a ≡ 95 → goes_on b ≡ true → None ≡ left_by a bs
  left_inside is goes = sym (any_of is ∙ ap (λ t. if t then None else Some (past_char rest)) goes)

  pub left_char : (l : List ℕ) → a ≡ 95 → goes_on b ≡ false → l ≡ past_char rest → Some l ≡ left_by a bs
  left_char l is out f = ap Some f ∙ sym (any_of is ∙ ap (λ t. if t then None else Some (past_char rest)) out)

  pub left_this : (a ≡ 95 → ⊥) → a ≡ b → Some rest ≡ left_by a bs
  left_this other is = sym (this_of other ∙ ap (λ t. if t then Some rest else None) (eq-eqb a b is))

  pub left_other : (a ≡ 95 → ⊥) → (a ≡ b → ⊥) → None ≡ left_by a bs
  left_other other out = sym (this_of other ∙ ap (λ t. if t then Some rest else None) (ne_eqb a b out))
