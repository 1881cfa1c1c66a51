-- Big-endian numbers in base 256 compare as their bytes do.
use Rattle.std.proofs.Common.{◌≡◌, ◌∙◌, sym, ap, subst, ℕ, ◌+◌, ◌*◌, ◌^◌, ◌<◌, ◌≤◌, suc, List, [], ◌∷◌, length, refl, arith, lit<}
use Rattle.std.specs.List.{All}
use Rattle.std.specs.Int.{w32, w64, from_be_bytes}
use Rattle.std.specs.Ordering.{nat_cmp, ordering_then}
use Rattle.std.specs.declared.cmp.Ordering.{Ordering}
use Rattle.std.specs.declared.cmp.Ordering.TheVariants.{Less, Equal, Greater}
use Rattle.std.specs.Cmp.{nat_cmp_is}
use Rattle.std.specs.Cmp.Lexicographic.{slice_cmp}
use Rattle.std.proofs.Math.Nat.{mul-le-mul_right}
use Rattle.std.proofs.lemmas.Cmp.{ranked, by_ranked}
use Rattle.std.proofs.lemmas.List.Elements.{All-head, All-tail}

-- the number whose digits are the bytes, the highest first
abbrev pub number : List ℕ → ℕ
number [] = 0
number (x ∷ v) = x * 256 ^ length v + number v

digit_below : (x y w r s : ℕ) → x < y → r < w → x * w + r < y * w + s
digit_below x y w r s h k =
    let m : suc x * w ≤ y * w = mul-le-mul_right w h in
    let n : suc x * w ≡ x * w + w = omega arith in
    omega (arith, m, n)

number_bound : (v : List ℕ) → All (λ x. x < 256) v → number v < 256 ^ length v
number_bound [] a = lit< tt
number_bound (x ∷ v) a =
    let r : number v < 256 ^ length v = number_bound v (All-tail (λ y. y < 256) x v a) in
    let b : x < 256 = All-head (λ y. y < 256) x v a in
    let d : x * 256 ^ length v + number v < 256 * 256 ^ length v + 0 = digit_below x 256 (256 ^ length v) (number v) 0 b r in
    let e : 256 ^ suc (length v) ≡ 256 * 256 ^ length v = omega arith in
    omega (arith, d, e)

digits_same : (x w r s : ℕ) → nat_cmp (x * w + r) (x * w + s) ≡ nat_cmp r s
digits_same x w r s =
    by_ranked _ _ _ (nat_cmp r s) (ranked r s _ refl)
    (λ e lt. sym (nat_cmp_is (x * w + r) (x * w + s) Less (omega (arith, lt))) ∙ sym e)
    (λ e eq. sym (nat_cmp_is (x * w + r) (x * w + s) Equal (ap (λ (k : ℕ). x * w + k) eq)) ∙ sym e)
    (λ e gt. sym (nat_cmp_is (x * w + r) (x * w + s) Greater (omega (arith, gt))) ∙ sym e)

digits : (x y w r s : ℕ) → r < w → s < w → nat_cmp (x * w + r) (y * w + s) ≡ ordering_then (nat_cmp x y) (nat_cmp r s)
digits x y w r s h k =
    by_ranked _ _ _ (nat_cmp x y) (ranked x y _ refl)
    (λ e lt. sym (nat_cmp_is (x * w + r) (y * w + s) Less (digit_below x y w r s lt h)) ∙ ap (λ (o : Ordering). ordering_then o (nat_cmp r s)) (sym e))
    (λ e eq. ap (λ (z : ℕ). nat_cmp (x * w + r) (z * w + s)) (sym eq) ∙ digits_same x w r s ∙ ap (λ (o : Ordering). ordering_then o (nat_cmp r s)) (sym e))
    (λ e gt. sym (nat_cmp_is (x * w + r) (y * w + s) Greater (digit_below y x w s r gt k)) ∙ ap (λ (o : Ordering). ordering_then o (nat_cmp r s)) (sym e))

-- of equal lengths: the numbers compare as the bytes
pub numbers_decide : (v w : List ℕ) → length v ≡ length w → All (λ x. x < 256) v → All (λ x. x < 256) w → nat_cmp (number v) (number w) ≡ slice_cmp nat_cmp v w
numbers_decide [] [] e a b = refl
numbers_decide [] (y ∷ w) e a b = absurd (omega arith)
numbers_decide (x ∷ v) [] e a b = absurd (omega arith)
numbers_decide (x ∷ v) (y ∷ w) e a b =
    let l : length v ≡ length w = omega arith in
    let r : number v < 256 ^ length v = number_bound v (All-tail (λ y. y < 256) x v a) in
    let s : number w < 256 ^ length v = subst (λ (k : ℕ). number w < 256 ^ k) (sym l) (number_bound w (All-tail (λ y. y < 256) y w b)) in
    ap (λ (k : ℕ). nat_cmp (x * 256 ^ length v + number v) (y * 256 ^ k + number w)) (sym l)
    ∙ digits x y (256 ^ length v) (number v) (number w) r s
    ∙ ap (ordering_then (nat_cmp x y)) (numbers_decide v w l (All-tail (λ y. y < 256) x v a) (All-tail (λ y. y < 256) y w b))

number_4 : (s : List ℕ) → length s ≡ 4 → from_be_bytes w32 s ≡ number s
number_4 [] e = absurd (omega arith)
number_4 (a ∷ []) e = absurd (omega arith)
number_4 (a ∷ b ∷ []) e = absurd (omega arith)
number_4 (a ∷ b ∷ c ∷ []) e = absurd (omega arith)
number_4 (a ∷ b ∷ c ∷ d ∷ []) e = omega arith
number_4 (a ∷ b ∷ c ∷ d ∷ f ∷ s) e = absurd (omega arith)

number_8 : (s : List ℕ) → length s ≡ 8 → from_be_bytes w64 s ≡ number s
number_8 [] e = absurd (omega arith)
number_8 (a ∷ []) e = absurd (omega arith)
number_8 (a ∷ b ∷ []) e = absurd (omega arith)
number_8 (a ∷ b ∷ c ∷ []) e = absurd (omega arith)
number_8 (a ∷ b ∷ c ∷ d ∷ []) e = absurd (omega arith)
number_8 (a ∷ b ∷ c ∷ d ∷ f ∷ []) e = absurd (omega arith)
number_8 (a ∷ b ∷ c ∷ d ∷ f ∷ g ∷ []) e = absurd (omega arith)
number_8 (a ∷ b ∷ c ∷ d ∷ f ∷ g ∷ h ∷ []) e = absurd (omega arith)
number_8 (a ∷ b ∷ c ∷ d ∷ f ∷ g ∷ h ∷ i ∷ []) e = omega arith
number_8 (a ∷ b ∷ c ∷ d ∷ f ∷ g ∷ h ∷ i ∷ j ∷ s) e = absurd (omega arith)

pub words_decide : (v w : List ℕ) → length v ≡ 4 → length w ≡ 4 → All (λ x. x < 256) v → All (λ x. x < 256) w → nat_cmp (from_be_bytes w32 v) (from_be_bytes w32 w) ≡ slice_cmp nat_cmp v w
words_decide v w e f a b = ap (λ (k : ℕ). nat_cmp k (from_be_bytes w32 w)) (number_4 v e) ∙ ap (nat_cmp (number v)) (number_4 w f) ∙ numbers_decide v w (e ∙ sym f) a b

pub long_words_decide : (v w : List ℕ) → length v ≡ 8 → length w ≡ 8 → All (λ x. x < 256) v → All (λ x. x < 256) w → nat_cmp (from_be_bytes w64 v) (from_be_bytes w64 w) ≡ slice_cmp nat_cmp v w
long_words_decide v w e f a b = ap (λ (k : ℕ). nat_cmp k (from_be_bytes w64 w)) (number_8 v e) ∙ ap (nat_cmp (number v)) (number_8 w f) ∙ numbers_decide v w (e ∙ sym f) a b
