-- The decimal digits of a number with up to four, and the table of three digits for each number.
use Rattle.std.proofs.Common.{◌≡◌, ℕ, zero, suc, ◌+◌, ◌*◌, ◌/◌, ◌%◌, ◌<◌, ◌≤◌, Bool, true, false, ◌&&◌, T, eqb, List, [], ◌∷◌, get_or, take, drop, drop-drop, ap, sym, ◌∙◌, arith, eqb→eq, decimal}
use Rattle.std.proofs.lemmas.Fmt.{decimal_digit, decimal_step}
use Rattle.std.proofs.lemmas.List.{get_or-take, get_or-drop}
use lib.Ieee.Fits.{and_l, and_r}
use Rattle.vortex_table_response.specs.declared.indices.TheConstants.{TRIPLES}

pub decimal_two : (n : ℕ) → 10 ≤ n → n < 100 → decimal n ≡ (48 + n / 10) ∷ (48 + n % 10) ∷ []
decimal_two n low high = rw (decimal_step n low (omega arith), decimal_digit (n / 10) (omega arith))

pub decimal_three : (n : ℕ) → 100 ≤ n → n < 1000 → decimal n ≡ (48 + n / 100) ∷ (48 + n / 10 % 10) ∷ (48 + n % 10) ∷ []
decimal_three n low high =
    let a : n / 10 / 10 ≡ n / 100 = omega arith in
    rw (decimal_step n (omega arith) (omega arith), decimal_two (n / 10) (omega arith) (omega arith), a)

pub decimal_four : (n : ℕ) → 1000 ≤ n → n < 10000
    → decimal n ≡ (48 + n / 1000) ∷ (48 + n % 1000 / 100) ∷ (48 + n % 1000 / 10 % 10) ∷ (48 + n % 1000 % 10) ∷ []
decimal_four n low high =
    let a : n / 10 / 100 ≡ n / 1000 = omega arith in
    let b : n / 10 / 10 % 10 ≡ n % 1000 / 100 = omega arith in
    let c : n / 10 % 10 ≡ n % 1000 / 10 % 10 = omega arith in
    let d : n % 10 ≡ n % 1000 % 10 = omega arith in
    rw (decimal_step n (omega arith) (omega arith), decimal_three (n / 10) (omega arith) (omega arith), a, b, c, d)

-- a comma and three digits
abbrev pub triple : ℕ → List ℕ
triple n = 44 ∷ (48 + n / 100) ∷ (48 + n / 10 % 10) ∷ (48 + n % 10) ∷ []

is_triple : ℕ → List ℕ → Bool
is_triple n (a ∷ b ∷ c ∷ d ∷ rest) = eqb a 44 && (eqb b (48 + n / 100) && (eqb c (48 + n / 10 % 10) && eqb d (48 + n % 10)))
is_triple n bs = false

-- these are the triples of k numbers from n on
are_triples : ℕ → ℕ → List ℕ → Bool
are_triples zero n bs = true
are_triples (suc k) n bs = is_triple n bs && are_triples k (suc n) (drop 4 bs)

triple_front : (n : ℕ) (bs : List ℕ) → T (is_triple n bs) → take 4 bs ≡ triple n
unfolding is_triple
triple_front n (a ∷ b ∷ c ∷ d ∷ rest) h =
    let i = and_r (eqb a 44) _ h in
    let j = and_r (eqb b (48 + n / 100)) _ i in
    rw (eqb→eq a _ (and_l _ _ h), eqb→eq b _ (and_l _ _ i), eqb→eq c _ (and_l _ _ j), eqb→eq d _ (and_r (eqb c _) _ j))
triple_front n [] h = absurd h
triple_front n (a ∷ []) h = absurd h
triple_front n (a ∷ b ∷ []) h = absurd h
triple_front n (a ∷ b ∷ c ∷ []) h = absurd h

triple_in : (k n : ℕ) (bs : List ℕ) → T (are_triples k n bs) → (p : ℕ) → p < k → take 4 (drop (4 * p) bs) ≡ triple (n + p)
unfolding are_triples
triple_in zero n bs h p less = absurd (omega arith)
triple_in (suc k) n bs h zero less =
    let e : 4 * 0 ≡ 0 = omega arith in
    let f : n + 0 ≡ n = omega arith in
    rw (e, f) (triple_front n bs (and_l _ (are_triples k (suc n) (drop 4 bs)) h))
triple_in (suc k) n bs h (suc p) less =
    let e : 4 * suc p ≡ 4 + 4 * p = omega arith in
    let f : n + suc p ≡ suc n + p = omega arith in
    let rest = triple_in k (suc n) (drop 4 bs) (and_r (is_triple n bs) _ h) p (omega arith) in
    ap (λ (i : ℕ). take 4 (drop i bs)) e ∙ ap (λ (cs : List ℕ). take 4 cs) (sym (drop-drop (4 * p) 4 bs)) ∙ rest ∙ ap triple (sym f)

pub triple_at : (p : ℕ) → p < 1000 → take 4 (drop (4 * p) TRIPLES) ≡ triple p
unfolding are_triples is_triple
triple_at p less = let e : 0 + p ≡ p = omega arith in rw e at (triple_in 1000 0 TRIPLES tt p less)

-- a byte of a triple
pub TRIPLES_at : (p i : ℕ) → p < 1000 → i < 4 → get_or TRIPLES (4 * p + i) 0 ≡ get_or (triple p) i 0
TRIPLES_at p i less within =
    sym (get_or-drop (4 * p) TRIPLES i 0) ∙ sym (get_or-take 4 (drop (4 * p) TRIPLES) i 0 within) ∙ ap (λ (bs : List ℕ). get_or bs i 0) (triple_at p less)
