-- Lists padded with zeros, and how they compare.
use Rattle.std.proofs.Common.{◌≡◌, ◌≢◌, ◌∙◌, sym, ap, subst, ℕ, ◌+◌, ◌<◌, ◌≤◌, suc, zero, List, [], ◌∷◌, ◌++◌, length, take, drop, replicate, refl, arith, lit<}
use Rattle.std.specs.List.{All}
use Rattle.std.specs.Ordering.{nat_cmp, ordering_then}
use Rattle.std.specs.declared.cmp.Ordering.{Ordering}
use Rattle.std.specs.declared.cmp.Ordering.TheVariants.{Less, Equal, Greater}
use Rattle.std.specs.Cmp.{nat_cmp_is}
use Rattle.std.specs.Cmp.Lexicographic.{slice_cmp}
use Rattle.std.proofs.lemmas.Cmp.{ranked, by_ranked}
use Rattle.std.proofs.lemmas.List.Elements.{All-nil, All-cons, All-head, All-tail}
use Rattle.vortex_arrays_view.specs.Made.{padded}

-- a padded list, element by element
abbrev pub pad : ℕ → List ℕ → List ℕ
pad zero v = []
pad (suc n) [] = 0 ∷ pad n []
pad (suc n) (x ∷ v) = x ∷ pad n v

pad-nil : (n m : ℕ) → n ≤ m → take n (replicate m 0) ≡ pad n []
pad-nil zero m h = refl
pad-nil (suc n) zero h = absurd (omega arith)
pad-nil (suc n) (suc m) h = ap (λ (r : List ℕ). 0 ∷ r) (pad-nil n m (omega arith))

pad_more : (n m : ℕ) (v : List ℕ) → n ≤ m → take n (v ++ replicate m 0) ≡ pad n v
pad_more zero m v h = refl
pad_more (suc n) m [] h = pad-nil (suc n) m h
pad_more (suc n) m (x ∷ v) h = ap (λ (r : List ℕ). x ∷ r) (pad_more n m v (omega arith))

pub padded_is : (n : ℕ) (v : List ℕ) → padded n v ≡ pad n v
padded_is n v = pad_more n n v (omega arith)

length-pad : (n : ℕ) (v : List ℕ) → length (pad n v) ≡ n
length-pad zero v = refl
length-pad (suc n) [] = ap (λ (k : ℕ). suc k) (length-pad n [])
length-pad (suc n) (x ∷ v) = ap (λ (k : ℕ). suc k) (length-pad n v)

pub length-padded : (n : ℕ) (v : List ℕ) → length (padded n v) ≡ n
length-padded n v = ap (λ (r : List ℕ). length r) (padded_is n v) ∙ length-pad n v

All-pad : (P : ℕ → Type 0) (n : ℕ) (v : List ℕ) → P 0 → All P v → All P (pad n v)
All-pad P zero v z a = All-nil P
All-pad P (suc n) [] z a = All-cons P 0 (pad n []) z (All-pad P n [] z a)
All-pad P (suc n) (x ∷ v) z a = All-cons P x (pad n v) (All-head P x v a) (All-pad P n v z (All-tail P x v a))

pub bytes-padded : (n : ℕ) (v : List ℕ) → All (λ x. x < 256) v → All (λ x. x < 256) (padded n v)
bytes-padded n v a = subst (λ (r : List ℕ). All (λ x. x < 256) r) (sym (padded_is n v)) (All-pad (λ x. x < 256) n v (lit< tt) a)

take-pad : (n : ℕ) (v : List ℕ) → length v ≤ n → take (length v) (pad n v) ≡ v
take-pad n [] h = refl
take-pad zero (x ∷ v) h = absurd (omega arith)
take-pad (suc n) (x ∷ v) h = ap (λ (r : List ℕ). x ∷ r) (take-pad n v (omega arith))

pub take-padded : (n : ℕ) (v : List ℕ) → length v ≤ n → take (length v) (padded n v) ≡ v
take-padded n v h = ap (take (length v)) (padded_is n v) ∙ take-pad n v h

-- a prefix of a padded list is padded, and the rest is the padded rest
take_of_pad : (m k : ℕ) (v : List ℕ) → m ≤ k → take m (pad k v) ≡ pad m v
take_of_pad zero k v h = refl
take_of_pad (suc m) zero v h = absurd (omega arith)
take_of_pad (suc m) (suc k) [] h = ap (λ (r : List ℕ). 0 ∷ r) (take_of_pad m k [] (omega arith))
take_of_pad (suc m) (suc k) (x ∷ v) h = ap (λ (r : List ℕ). x ∷ r) (take_of_pad m k v (omega arith))

pub take_of_padded : (m k : ℕ) (v : List ℕ) → m ≤ k → take m (padded k v) ≡ padded m v
take_of_padded m k v h = ap (take m) (padded_is k v) ∙ take_of_pad m k v h ∙ sym (padded_is m v)

drop-nil : (m : ℕ) → drop {A = ℕ} m [] ≡ []
drop-nil zero = refl
drop-nil (suc m) = refl

drop_of_pad : (m n k : ℕ) (v : List ℕ) → m + n ≡ k → drop m (pad k v) ≡ pad n (drop m v)
drop_of_pad zero n k v h = let e : k ≡ n = omega arith in ap (λ (j : ℕ). pad j v) e
drop_of_pad (suc m) n zero v h = absurd (omega arith)
drop_of_pad (suc m) n (suc k) [] h = drop_of_pad m n k [] (omega arith) ∙ ap (pad n) (drop-nil m)
drop_of_pad (suc m) n (suc k) (x ∷ v) h = drop_of_pad m n k v (omega arith)

pub drop_of_padded : (m n k : ℕ) (v : List ℕ) → m + n ≡ k → drop m (padded k v) ≡ padded n (drop m v)
drop_of_padded m n k v h = ap (drop m) (padded_is k v) ∙ drop_of_pad m n k v h ∙ sym (padded_is n (drop m v))

-- a list that is long enough is not padded
pad_long : (n : ℕ) (v : List ℕ) → n ≤ length v → pad n v ≡ take n v
pad_long zero v h = refl
pad_long (suc n) [] h = absurd (omega arith)
pad_long (suc n) (x ∷ v) h = ap (λ (r : List ℕ). x ∷ r) (pad_long n v (omega arith))

pub padded_long : (n : ℕ) (v : List ℕ) → n ≤ length v → padded n v ≡ take n v
padded_long n v h = padded_is n v ∙ pad_long n v h

-- orders one after another
pub then_assoc : (o p q : Ordering) → ordering_then (ordering_then o p) q ≡ ordering_then o (ordering_then p q)
then_assoc Less p q = refl
then_assoc Equal p q = refl
then_assoc Greater p q = refl

then_same : (o p q r : Ordering) → ordering_then p q ≡ r → ordering_then (ordering_then o p) q ≡ ordering_then o r
then_same o p q r h = then_assoc o p q ∙ ap (ordering_then o) h

nat_cmp-suc : (x y : ℕ) → nat_cmp (suc x) (suc y) ≡ nat_cmp x y
nat_cmp-suc x y =
    by_ranked _ _ _ (nat_cmp x y) (ranked x y _ refl)
    (λ e lt. sym (nat_cmp_is (suc x) (suc y) Less (omega (arith, lt))) ∙ sym e)
    (λ e eq. sym (nat_cmp_is (suc x) (suc y) Equal (ap (λ (k : ℕ). suc k) eq)) ∙ sym e)
    (λ e gt. sym (nat_cmp_is (suc x) (suc y) Greater (omega (arith, gt))) ∙ sym e)

-- zeros are not above, and then the shorter list is below
zeros_first : (n : ℕ) (v : List ℕ) → ordering_then (slice_cmp nat_cmp (pad n []) (pad n v)) Less ≡ Less
zeros_first zero v = refl
zeros_first (suc n) [] = zeros_first n []
zeros_first (suc n) (zero ∷ v) = zeros_first n v
zeros_first (suc n) (suc x ∷ v) = ap (λ (o : Ordering). ordering_then (ordering_then o (slice_cmp nat_cmp (pad n []) (pad n v))) Less) (sym (nat_cmp_is 0 (suc x) Less (omega arith)))

zeros_last : (n : ℕ) (v : List ℕ) → ordering_then (slice_cmp nat_cmp (pad n v) (pad n [])) Greater ≡ Greater
zeros_last zero v = refl
zeros_last (suc n) [] = zeros_last n []
zeros_last (suc n) (zero ∷ v) = zeros_last n v
zeros_last (suc n) (suc x ∷ v) = ap (λ (o : Ordering). ordering_then (ordering_then o (slice_cmp nat_cmp (pad n v) (pad n []))) Greater) (sym (nat_cmp_is (suc x) 0 Greater (omega arith)))

zeros_same : (n : ℕ) → slice_cmp nat_cmp (pad n []) (pad n []) ≡ Equal
zeros_same zero = refl
zeros_same (suc n) = zeros_same n

pads_decide : (n : ℕ) (v w : List ℕ) → length v ≤ n → length w ≤ n → ordering_then (slice_cmp nat_cmp (pad n v) (pad n w)) (nat_cmp (length v) (length w)) ≡ slice_cmp nat_cmp v w
pads_decide n [] [] h k = ap (λ (o : Ordering). ordering_then o Equal) (zeros_same n)
pads_decide n [] (y ∷ w) h k = ap (ordering_then (slice_cmp nat_cmp (pad n []) (pad n (y ∷ w)))) (sym (nat_cmp_is 0 (suc (length w)) Less (omega arith))) ∙ zeros_first n (y ∷ w)
pads_decide n (x ∷ v) [] h k = ap (ordering_then (slice_cmp nat_cmp (pad n (x ∷ v)) (pad n []))) (sym (nat_cmp_is (suc (length v)) 0 Greater (omega arith))) ∙ zeros_last n (x ∷ v)
pads_decide zero (x ∷ v) (y ∷ w) h k = absurd (omega arith)
pads_decide (suc n) (x ∷ v) (y ∷ w) h k =
    then_same (nat_cmp x y) (slice_cmp nat_cmp (pad n v) (pad n w)) (nat_cmp (suc (length v)) (suc (length w))) (slice_cmp nat_cmp v w)
    (ap (ordering_then (slice_cmp nat_cmp (pad n v) (pad n w))) (nat_cmp-suc (length v) (length w)) ∙ pads_decide n v w (omega arith) (omega arith))

pub padded_decide : (n : ℕ) (v w : List ℕ) → length v ≤ n → length w ≤ n → ordering_then (slice_cmp nat_cmp (padded n v) (padded n w)) (nat_cmp (length v) (length w)) ≡ slice_cmp nat_cmp v w
padded_decide n v w h k =
    ap (λ (p : List ℕ). ordering_then (slice_cmp nat_cmp p (padded n w)) (nat_cmp (length v) (length w))) (padded_is n v)
    ∙ ap (λ (p : List ℕ). ordering_then (slice_cmp nat_cmp (pad n v) p) (nat_cmp (length v) (length w))) (padded_is n w)
    ∙ pads_decide n v w h k

-- no padded list is below zeros
not_below_zeros : (n : ℕ) (v : List ℕ) → slice_cmp nat_cmp (pad n v) (pad n []) ≢ Less
not_below_zeros n v h = let e = subst (λ (o : Ordering). ordering_then o Greater ≡ Greater) h (zeros_last n v) in absurd (cc (e))

then_less : (o p q : Ordering) → (p ≡ Less → q ≡ Less) → ordering_then o p ≡ Less → ordering_then o q ≡ Less
then_less Less p q f h = refl
then_less Equal p q f h = f h
then_less Greater p q f h = h

pads_below : (n : ℕ) (v w : List ℕ) → slice_cmp nat_cmp (pad n v) (pad n w) ≡ Less → slice_cmp nat_cmp v w ≡ Less
pads_below zero v w h = absurd (cc (h))
pads_below (suc n) v [] h = absurd (not_below_zeros (suc n) v h)
pads_below (suc n) [] (y ∷ w) h = refl
pads_below (suc n) (x ∷ v) (y ∷ w) h = then_less (nat_cmp x y) _ _ (pads_below n v w) h

pub padded_below : (n : ℕ) (v w : List ℕ) → slice_cmp nat_cmp (padded n v) (padded n w) ≡ Less → slice_cmp nat_cmp v w ≡ Less
padded_below n v w h =
    pads_below n v w (subst (λ (p : List ℕ). slice_cmp nat_cmp (pad n v) p ≡ Less) (padded_is n w) (subst (λ (p : List ℕ). slice_cmp nat_cmp p (padded n w) ≡ Less) (padded_is n v) h))
