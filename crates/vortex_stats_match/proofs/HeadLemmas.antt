-- The first four bytes of a view decide as its value does.
use Rattle.std.proofs.Common.{◌≡◌, refl, sym, ap, ◌∙◌, ℕ, zero, suc, ◌≤◌, cond, List, [], ◌∷◌, length, take, drop, nat_lt, arith, inl, inr, lt-ltb, le-ltb}
use Rattle.std.specs.Ordering.{nat_cmp, ordering_then, ordering_reverse}
use Rattle.std.specs.Int.{w32, from_be_bytes}
use Rattle.std.specs.declared.cmp.Ordering.{Ordering}
use Rattle.std.specs.declared.cmp.Ordering.TheVariants.{Less, Equal, Greater}
use Rattle.std.specs.Cmp.Lexicographic.{slice_cmp}
use Rattle.std.proofs.lemmas.Bool.{cases_lt}
use Rattle.std.proofs.lemmas.Cmp.{nat_list_cmp_total}
use Rattle.std.proofs.lemmas.List.{take-take, take_all}
use Rattle.vortex_model.specs.Order.{bytes_cmp}
use Rattle.vortex_arrays_view.specs.Views.{size_of, value_of, HasValue}
use Rattle.vortex_arrays_view.specs.Laws.{AreBytes}
use Rattle.vortex_arrays_view.specs.Made.{padded, prefix_in, prefix_of, order_prefix_of}
use Rattle.vortex_arrays_view.proofs.Made.{value_short}
use Rattle.vortex_arrays_view.proofs.Padding.{pad, padded_is, padded_below, padded_long, length-padded, bytes-padded}
use Rattle.vortex_arrays_view.proofs.Digits.{words_decide}
use Rattle.vortex_stats_match.specs.Heads.{HasHead, head_cmp, cmp_by_head}

-- a view that has its value has the first bytes of it
pub has_head : (v : List ℕ) (buffers : List (List ℕ)) → HasValue v buffers → HasHead v buffers
has_head v buffers h four = elim (cases_lt 12 (size_of v)) [
  | inl long ↦ h.prefix long
  | inr short ↦ sym (take-take 4 (size_of v) (drop 4 v) four) ∙ ap (take 4) (sym (value_short v buffers short))
]

-- ---- padded strings

pad_of_take : (n : ℕ) (v : List ℕ) → pad n (take n v) ≡ pad n v
pad_of_take zero v = refl
pad_of_take (suc n) [] = refl
pad_of_take (suc n) (x ∷ v) = ap (λ r. x ∷ r) (pad_of_take n v)

padded_of_take : (n : ℕ) (v : List ℕ) → padded n (take n v) ≡ padded n v
padded_of_take n v = padded_is n (take n v) ∙ pad_of_take n v ∙ sym (padded_is n v)

then_same : (n : ℕ) (v w : List ℕ) (o : Ordering) → slice_cmp nat_cmp (padded n v) (padded n w) ≡ o →
    ordering_then o (slice_cmp nat_cmp v w) ≡ slice_cmp nat_cmp v w
then_same n v w Equal e = refl
then_same n v w Less e = sym (padded_below n v w e)
then_same n v w Greater e =
    let turned = nat_list_cmp_total.antisymm (padded n w) (padded n v) ∙ ap ordering_reverse e in
    sym (nat_list_cmp_total.antisymm v w ∙ ap ordering_reverse (padded_below n w v turned))

-- ---- the order

pub cmp_is : (v : List ℕ) (buffers : List (List ℕ)) (text : List ℕ) → HasHead v buffers → cmp_by_head v buffers text ≡ bytes_cmp (value_of v buffers) text
cmp_is v buffers text h = by (bytes_cmp (prefix_of (prefix_in v)) (prefix_of text)) (bytes_cmp (value_of v buffers) text) (λ four.
    ap (λ p. ordering_then (bytes_cmp p (prefix_of text)) (bytes_cmp (value_of v buffers) text)) (ap (padded 4) (h four) ∙ padded_of_take 4 (value_of v buffers))
    ∙ then_same 4 (value_of v buffers) text _ refl)
  where
    by : (parts whole : Ordering) → (4 ≤ size_of v → ordering_then parts whole ≡ whole) → ordering_then (cond (nat_lt (size_of v) 4) Equal parts) whole ≡ whole
    by parts whole of_four = elim (cases_lt (size_of v) 4) [
      | inl brief ↦ ap (λ b. ordering_then (cond b Equal parts) whole) (lt-ltb (size_of v) 4 brief)
      | inr four ↦ ap (λ b. ordering_then (cond b Equal parts) whole) (le-ltb (size_of v) 4 four) ∙ of_four four
    ]

-- the first four bytes as numbers
pub words_are : (v prefix text : List ℕ) (n k : ℕ) (o : Ordering) → 4 ≤ size_of v → prefix ≡ prefix_in v → length prefix ≡ 4 → AreBytes prefix → AreBytes text →
    n ≡ from_be_bytes w32 prefix → k ≡ order_prefix_of text → o ≡ nat_cmp n k → o ≡ head_cmp v text
words_are v prefix text n k o four is many bytes texts first second e =
    e ∙ (λ i. nat_cmp (first i) (second i))
    ∙ words_decide prefix (prefix_of text) many (length-padded 4 text) bytes (bytes-padded 4 text texts)
    ∙ ap (λ p. slice_cmp nat_cmp p (prefix_of text)) (sym (padded_long 4 prefix (omega (arith, many)) ∙ take_all 4 prefix (omega (arith, many))) ∙ ap prefix_of is)
    ∙ sym (ap (λ b. cond b Equal (bytes_cmp (prefix_of (prefix_in v)) (prefix_of text))) (le-ltb (size_of v) 4 four))
