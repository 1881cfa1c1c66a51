-- The UTF-8 bytes of characters are in the order of the characters.
use Rattle.std.proofs.Common.{◌≡◌, ℕ, ◌+◌, ◌/◌, ◌%◌, ◌<◌, ◌≤◌, List, [], ◌∷◌, ◌++◌, refl, sym, ◌∙◌, subst₂, arith, ⊎_elim, lt-ltb, le-ltb}
use Rattle.std.specs.Char.{encode_utf8}
use Rattle.std.proofs.lemmas.Bool.{cond-true, cond-false, cases_lt}
use Rattle.std.proofs.lemmas.Str.{encode_ascii}
use Rattle.vortex_model_laws.proofs.ByteOrder.{IsUnder, under_head, under_step}

pub encode_two : (c : ℕ) → 128 ≤ c → c < 2048 → encode_utf8 c ≡ (192 + c / 64) ∷ (128 + c % 64) ∷ []
unfolding encode_utf8
encode_two c low high = cond-false _ _ _ (le-ltb c 128 low) ∙ cond-true _ _ _ (lt-ltb c 2048 high)

pub encode_three : (c : ℕ) → 2048 ≤ c → c < 65536 → encode_utf8 c ≡ (224 + c / 4096) ∷ (128 + (c / 64) % 64) ∷ (128 + c % 64) ∷ []
unfolding encode_utf8
encode_three c low high =
    cond-false _ _ _ (le-ltb c 128 (omega arith)) ∙ cond-false _ _ _ (le-ltb c 2048 low) ∙ cond-true _ _ _ (lt-ltb c 65536 high)

pub encode_four : (c : ℕ) → 65536 ≤ c → encode_utf8 c ≡ (240 + c / 262144) ∷ (128 + (c / 4096) % 64) ∷ (128 + (c / 64) % 64) ∷ (128 + c % 64) ∷ []
unfolding encode_utf8
encode_four c low =
    cond-false _ _ _ (le-ltb c 128 (omega arith)) ∙ cond-false _ _ _ (le-ltb c 2048 (omega arith)) ∙ cond-false _ _ _ (le-ltb c 65536 low)

-- the first byte determines the number of bytes, and first bytes are in the order of these numbers
record Lead (c : ℕ) : Type 0 where
  lead : ℕ
  rest : List ℕ
  is : encode_utf8 c ≡ lead ∷ rest
  one : c < 128 → lead ≡ c
  two : 128 ≤ c → 192 ≤ lead
  three : 2048 ≤ c → 224 ≤ lead
  four : 65536 ≤ c → 240 ≤ lead

lead_of : (c : ℕ) → Lead c
lead_of c =
    ⊎_elim (λ a. record { lead = c; rest = []; is = encode_ascii c a; one = λ h. refl; two = λ h. omega arith; three = λ h. omega arith; four = λ h. omega arith })
    (λ a. ⊎_elim (λ b. record { lead = 192 + c / 64; rest = (128 + c % 64) ∷ []; is = encode_two c a b; one = λ h. absurd (omega arith); two = λ h. omega arith; three = λ h. omega arith; four = λ h. omega arith })
    (λ b. ⊎_elim (λ d. record { lead = 224 + c / 4096; rest = (128 + (c / 64) % 64) ∷ (128 + c % 64) ∷ []; is = encode_three c b d; one = λ h. absurd (omega arith); two = λ h. omega arith; three = λ h. omega arith; four = λ h. omega arith })
    (λ d. record { lead = 240 + c / 262144; rest = (128 + (c / 4096) % 64) ∷ (128 + (c / 64) % 64) ∷ (128 + c % 64) ∷ []; is = encode_four c d; one = λ h. absurd (omega arith); two = λ h. omega arith; three = λ h. omega arith; four = λ h. omega arith })
    (cases_lt c 65536))
    (cases_lt c 2048))
    (cases_lt c 128)

by_first : (c d x y : ℕ) (xs ys r t : List ℕ) → encode_utf8 c ≡ x ∷ xs → encode_utf8 d ≡ y ∷ ys → x < y → IsUnder (encode_utf8 c ++ r) (encode_utf8 d ++ t)
by_first c d x y xs ys r t e f lt =
    subst₂ (λ v w. IsUnder (v ++ r) (w ++ t)) (sym e) (sym f) (under_head x y (xs ++ r) (ys ++ t) lt)

two_bytes : (a b c d : ℕ) (r t : List ℕ) → a ≤ c → (a ≡ c → b < d) → IsUnder (a ∷ b ∷ r) (c ∷ d ∷ t)
two_bytes a b c d r t le lt = under_step a c (b ∷ r) (d ∷ t) le (λ e. under_head b d r t (lt e))

three_bytes : (a b c d x y : ℕ) (r t : List ℕ) → a ≤ d → (a ≡ d → b ≤ x) → (a ≡ d → b ≡ x → c < y) → IsUnder (a ∷ b ∷ c ∷ r) (d ∷ x ∷ y ∷ t)
three_bytes a b c d x y r t le le2 lt = under_step a d (b ∷ c ∷ r) (x ∷ y ∷ t) le (λ e. two_bytes b c x y r t (le2 e) (lt e))

four_bytes : (a b c d x y z w : ℕ) (r t : List ℕ) → a ≤ x → (a ≡ x → b ≤ y) → (a ≡ x → b ≡ y → c ≤ z) → (a ≡ x → b ≡ y → c ≡ z → d < w) → IsUnder (a ∷ b ∷ c ∷ d ∷ r) (x ∷ y ∷ z ∷ w ∷ t)
four_bytes a b c d x y z w r t le le2 le3 lt = under_step a x (b ∷ c ∷ d ∷ r) (y ∷ z ∷ w ∷ t) le (λ e. three_bytes b c d y z w r t (le2 e) (le3 e) (lt e))

both_two : (c d : ℕ) (r t : List ℕ) → 128 ≤ c → d < 2048 → c < d → IsUnder (encode_utf8 c ++ r) (encode_utf8 d ++ t)
both_two c d r t low high lt =
    subst₂ (λ v w. IsUnder (v ++ r) (w ++ t)) (sym (encode_two c low (omega arith))) (sym (encode_two d (omega arith) high))
    (two_bytes (192 + c / 64) (128 + c % 64) (192 + d / 64) (128 + d % 64) r t (omega arith) (λ e. omega arith))

both_three : (c d : ℕ) (r t : List ℕ) → 2048 ≤ c → d < 65536 → c < d → IsUnder (encode_utf8 c ++ r) (encode_utf8 d ++ t)
both_three c d r t low high lt =
    subst₂ (λ v w. IsUnder (v ++ r) (w ++ t)) (sym (encode_three c low (omega arith))) (sym (encode_three d (omega arith) high))
    (three_bytes (224 + c / 4096) (128 + (c / 64) % 64) (128 + c % 64) (224 + d / 4096) (128 + (d / 64) % 64) (128 + d % 64) r t (omega arith) (λ e. omega arith) (λ e f. omega arith))

both_four : (c d : ℕ) (r t : List ℕ) → 65536 ≤ c → c < d → IsUnder (encode_utf8 c ++ r) (encode_utf8 d ++ t)
both_four c d r t low lt =
    subst₂ (λ v w. IsUnder (v ++ r) (w ++ t)) (sym (encode_four c low)) (sym (encode_four d (omega arith)))
    (four_bytes (240 + c / 262144) (128 + (c / 4096) % 64) (128 + (c / 64) % 64) (128 + c % 64) (240 + d / 262144) (128 + (d / 4096) % 64) (128 + (d / 64) % 64) (128 + d % 64) r t (omega arith) (λ e. omega arith) (λ e f. omega arith) (λ e f g. omega arith))

-- the bytes of characters are in the characters' order, and none are a prefix of another's
pub encode_under : (c d : ℕ) (r t : List ℕ) → c < d → IsUnder (encode_utf8 c ++ r) (encode_utf8 d ++ t)
encode_under c d r t lt =
    let l = lead_of d in
    ⊎_elim (λ a. by_first c d c l.lead [] l.rest r t (encode_ascii c a) l.is (⊎_elim (λ b. omega (arith, l.one b)) (λ b. omega (arith, l.two b)) (cases_lt d 128)))
    (λ a. ⊎_elim
    (λ b. ⊎_elim (λ h. both_two c d r t a h lt)
    (λ h. by_first c d (192 + c / 64) l.lead ((128 + c % 64) ∷ []) l.rest r t (encode_two c a b) l.is (omega (arith, l.three h))) (cases_lt d 2048))
    (λ b. ⊎_elim
    (λ k. ⊎_elim (λ h. both_three c d r t b h lt)
    (λ h. by_first c d (224 + c / 4096) l.lead ((128 + (c / 64) % 64) ∷ (128 + c % 64) ∷ []) l.rest r t (encode_three c b k) l.is (omega (arith, l.four h))) (cases_lt d 65536))
    (λ k. both_four c d r t k lt)
    (cases_lt c 65536))
    (cases_lt c 2048))
    (cases_lt c 128)
