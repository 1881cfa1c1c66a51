-- The laws of the order of views.
use Rattle.std.proofs.Common.{◌≡◌, ◌∙◌, sym, ap, subst, ℕ, ◌+◌, ◌<◌, ◌≤◌, List, [], ◌∷◌, ◌++◌, length, take, drop, get_or, refl, arith, length-drop, inl, inr}
use Rattle.std.specs.Int.{w32, w64, from_be_bytes, to_le_bytes}
use Rattle.std.specs.Ordering.{nat_cmp, ordering_then}
use Rattle.std.specs.declared.cmp.Ordering.{Ordering}
use Rattle.std.specs.declared.cmp.Ordering.TheVariants.{Less}
use Rattle.std.specs.Cmp.{nat_cmp_is}
use Rattle.std.specs.Cmp.Lexicographic.{slice_cmp}
use Rattle.std.proofs.lemmas.Bool.{cases_lt}
use Rattle.std.proofs.lemmas.List.{take-append-drop, drop-drop, length-take-le, get_or_past}
use Rattle.std.proofs.lemmas.List.Elements.{All-take, All-drop, All-get_or}
use Rattle.std.proofs.lemmas.Nat.{le_bytes_4}
use Rattle.vortex_arrays_view.specs.Views.{size_of, inlined_of}
use Rattle.vortex_arrays_view.specs.Made.{padded, prefix_in, order_prefix_of}
use Rattle.vortex_arrays_view.specs.Laws.{AreBytes, IsZeroPadded, InlinedOrder, InlinedEquality, PrefixOrder}
use Rattle.vortex_arrays_view.proofs.Padding.{then_assoc, padded_decide, padded_below, length-padded, bytes-padded}
use Rattle.vortex_arrays_view.proofs.Digits.{words_decide, long_words_decide}

-- lists whose first parts have one length compare by these, and then by the rest
parts_decide : (p q t u : List ℕ) → length p ≡ length q → slice_cmp nat_cmp (p ++ t) (q ++ u) ≡ ordering_then (slice_cmp nat_cmp p q) (slice_cmp nat_cmp t u)
parts_decide [] [] t u e = refl
parts_decide [] (y ∷ q) t u e = absurd (omega arith)
parts_decide (x ∷ p) [] t u e = absurd (omega arith)
parts_decide (x ∷ p) (y ∷ q) t u e =
    ap (ordering_then (nat_cmp x y)) (parts_decide p q t u (omega arith)) ∙ sym (then_assoc (nat_cmp x y) (slice_cmp nat_cmp p q) (slice_cmp nat_cmp t u))

words_order : (p q t u v w : List ℕ) → length p ≡ 4 → length q ≡ 4 → length t ≡ 8 → length u ≡ 8 → AreBytes p → AreBytes q → AreBytes t → AreBytes u → p ++ t ≡ padded 12 v → q ++ u ≡ padded 12 w → length v ≤ 12 → length w ≤ 12
    → ordering_then (nat_cmp (from_be_bytes w32 p) (from_be_bytes w32 q)) (ordering_then (nat_cmp (from_be_bytes w64 t) (from_be_bytes w64 u)) (nat_cmp (length v) (length w))) ≡ slice_cmp nat_cmp v w
words_order p q t u v w lp lq lt lu bp bq bt bu e f h k =
    ap (λ (o : Ordering). ordering_then o (ordering_then (nat_cmp (from_be_bytes w64 t) (from_be_bytes w64 u)) (nat_cmp (length v) (length w)))) (words_decide p q lp lq bp bq)
    ∙ ap (λ (o : Ordering). ordering_then (slice_cmp nat_cmp p q) (ordering_then o (nat_cmp (length v) (length w)))) (long_words_decide t u lt lu bt bu)
    ∙ sym (then_assoc (slice_cmp nat_cmp p q) (slice_cmp nat_cmp t u) (nat_cmp (length v) (length w)))
    ∙ ap (λ (o : Ordering). ordering_then o (nat_cmp (length v) (length w))) (sym (parts_decide p q t u (lp ∙ sym lq)))
    ∙ ap (λ (l : List ℕ). ordering_then (slice_cmp nat_cmp l (q ++ u)) (nat_cmp (length v) (length w))) e
    ∙ ap (λ (l : List ℕ). ordering_then (slice_cmp nat_cmp (padded 12 v) l) (nat_cmp (length v) (length w))) f
    ∙ padded_decide 12 v w h k

-- the parts of a list of sixteen
length_rest : (b : List ℕ) (n m : ℕ) → length b ≡ 16 → n + m ≡ 16 → length (drop n b) ≡ m
length_rest b n m e h = omega (arith, length-drop n b)

length_prefix : (b : List ℕ) → length b ≡ 16 → length (take 4 (drop 4 b)) ≡ 4
length_prefix b e = let l : length (drop 4 b) ≡ 12 = length_rest b 4 12 e refl in length-take-le 4 (drop 4 b) (omega arith)

rest_parts : (b : List ℕ) → take 4 (drop 4 b) ++ drop 8 b ≡ drop 4 b
rest_parts b = ap (λ (r : List ℕ). take 4 (drop 4 b) ++ r) (sym (drop-drop 4 4 b)) ∙ take-append-drop 4 (drop 4 b)

length_inlined : (b : List ℕ) (n : ℕ) → length b ≡ 16 → n ≤ 12 → length (take n (drop 4 b)) ≡ n
length_inlined b n e h = let l : length (drop 4 b) ≡ 12 = length_rest b 4 12 e refl in length-take-le n (drop 4 b) (omega arith)

pub inlined_order : InlinedOrder
inlined_order a b h k =
    let la : length (inlined_of a) ≡ size_of a = length_inlined a (size_of a) h.sixteen h.short in
    let lb : length (inlined_of b) ≡ size_of b = length_inlined b (size_of b) k.sixteen k.short in
    let sa : length (inlined_of a) ≤ 12 = subst (λ (n : ℕ). n ≤ 12) (sym la) h.short in
    let sb : length (inlined_of b) ≤ 12 = subst (λ (n : ℕ). n ≤ 12) (sym lb) k.short in
    ap (λ (n : ℕ). ordering_then (nat_cmp (from_be_bytes w32 (prefix_in a)) (from_be_bytes w32 (prefix_in b))) (ordering_then (nat_cmp (from_be_bytes w64 (drop 8 a)) (from_be_bytes w64 (drop 8 b))) (nat_cmp n (size_of b)))) (sym la)
    ∙ ap (λ (n : ℕ). ordering_then (nat_cmp (from_be_bytes w32 (prefix_in a)) (from_be_bytes w32 (prefix_in b))) (ordering_then (nat_cmp (from_be_bytes w64 (drop 8 a)) (from_be_bytes w64 (drop 8 b))) (nat_cmp (length (inlined_of a)) n))) (sym lb)
    ∙ words_order (prefix_in a) (prefix_in b) (drop 8 a) (drop 8 b) (inlined_of a) (inlined_of b)
    (length_prefix a h.sixteen) (length_prefix b k.sixteen) (length_rest a 8 8 h.sixteen refl) (length_rest b 8 8 k.sixteen refl)
    (All-take (λ x. x < 256) 4 (drop 4 a) (All-drop (λ x. x < 256) 4 a h.bytes)) (All-take (λ x. x < 256) 4 (drop 4 b) (All-drop (λ x. x < 256) 4 b k.bytes)) (All-drop (λ x. x < 256) 8 a h.bytes) (All-drop (λ x. x < 256) 8 b k.bytes)
    (rest_parts a ∙ h.zeros) (rest_parts b ∙ k.zeros) sa sb

pub prefix_order : PrefixOrder
prefix_order v w a b h =
    padded_below 4 v w (sym (words_decide (padded 4 v) (padded 4 w) (length-padded 4 v) (length-padded 4 w) (bytes-padded 4 v a) (bytes-padded 4 w b)) ∙ sym (nat_cmp_is (order_prefix_of v) (order_prefix_of w) Less h))

-- each element of a list of bytes, also past its end, is below 256
byte_at : (s : List ℕ) → AreBytes s → (i : ℕ) → get_or s i 0 < 256
byte_at s a i = elim (cases_lt i (length s)) [ inl l ↦ All-get_or (λ x. x < 256) s i 0 l a | inr g ↦ subst (λ (n : ℕ). n < 256) (sym (get_or_past s i 0 g)) (omega arith) ]

size_bytes : (b : List ℕ) → length b ≡ 16 → AreBytes b → to_le_bytes w32 (size_of b) ≡ take 4 b
size_bytes b e a = le_bytes_4 (take 4 b) (size_of b) (length-take-le 4 b (omega arith)) (byte_at (take 4 b) (All-take (λ x. x < 256) 4 b a)) refl

eq_parts : (a b : List ℕ) → take 4 a ≡ take 4 b → drop 4 a ≡ drop 4 b → a ≡ b
eq_parts a b e f = sym (take-append-drop 4 a) ∙ ap (λ (l : List ℕ). l ++ drop 4 a) e ∙ ap (λ (l : List ℕ). take 4 b ++ l) f ∙ take-append-drop 4 b

eq_inlined : (a b : List ℕ) → IsZeroPadded a → IsZeroPadded b → inlined_of a ≡ inlined_of b → a ≡ b
eq_inlined a b h k e =
    let n : size_of a ≡ size_of b = sym (length_inlined a (size_of a) h.sixteen h.short) ∙ ap (λ (l : List ℕ). length l) e ∙ length_inlined b (size_of b) k.sixteen k.short in
    eq_parts a b
    (sym (size_bytes a h.sixteen h.bytes) ∙ ap (to_le_bytes w32) n ∙ size_bytes b k.sixteen k.bytes)
    (h.zeros ∙ ap (padded 12) e ∙ sym k.zeros)

pub inlined_equality : InlinedEquality
inlined_equality a b h k = (λ e. ap inlined_of e, eq_inlined a b h k)
