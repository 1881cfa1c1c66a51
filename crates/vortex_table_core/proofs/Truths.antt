-- Runs of truths that are true, found block by block and then one by one.
use Rattle.std.proofs.Common.{◌≡◌, refl, sym, ap, subst, ◌∙◌, ℕ, zero, suc, ◌+◌, ◌-◌, ◌<◌, ◌≤◌, List, [], ◌∷◌, length, take, drop, get_or, nat_le, not, ◌&&◌, ◌⊎◌, inl, inr, Bool, true, false, arith}
use Rattle.std.specs.List.{list_all, list_any, slice_range}
use Rattle.std.proofs.Math.Bool.{beq}
use Rattle.std.proofs.lemmas.Bool.{cases_eq, leb-true, le-leb, lt-leb}
use Rattle.std.proofs.lemmas.Bool.Decides.{nat_tests}
use Rattle.std.proofs.lemmas.List.{get_or-take, get_or-drop, length-take-le, length-drop}
use Rattle.std.specs.Cmp.{first_so, second_so}
use Rattle.vortex_table_core.specs.Truths.{AreTrue, is_block}

-- ---- a block

no_false : (bits : List Bool) → not (list_any (λ b. beq b false) bits) ≡ list_all (λ b. b) bits
no_false [] = refl
no_false (true ∷ bits) = no_false bits
no_false (false ∷ bits) = refl

pub no_block : (bits : List Bool) (from : ℕ) → length bits - from < 64 → is_block bits from ≡ false
no_block bits from few = ap (λ b. b && list_all (λ x. x) (slice_range bits from (from + 64))) (lt-leb (from + 64) (length bits) (omega (arith, few)))

pub block_seen : (bits : List Bool) (from : ℕ) (found : Bool) → 64 ≤ length bits - from → found ≡ list_any (λ b. beq b false) (slice_range bits from (from + 64)) → not found ≡ is_block bits from
block_seen bits from found many is =
    ap not is ∙ no_false (slice_range bits from (from + 64))
    ∙ ap (λ b. b && list_all (λ x. x) (slice_range bits from (from + 64))) (sym (le-leb (from + 64) (length bits) (omega (arith, many))))

true_at : (bits : List Bool) (i : ℕ) → list_all (λ b. b) bits ≡ true → i < length bits → get_or bits i false ≡ true
true_at [] i h inside = absurd (omega (arith, inside))
true_at (b ∷ bits) zero h inside = first_so b (list_all (λ x. x) bits) h
true_at (b ∷ bits) (suc i) h inside = true_at bits i (second_so b (list_all (λ x. x) bits) h) (omega (arith, inside))

module _ (bits : List Bool) (from : ℕ) (found : Bool) (is : found ≡ is_block bits from) (holds : found ≡ true) where
  seen : nat_le (from + 64) (length bits) && list_all (λ b. b) (slice_range bits from (from + 64)) ≡ true
  seen = sym is ∙ holds

  pub block_fits : from + 64 ≤ length bits
  block_fits = leb-true (from + 64) (length bits) (first_so (nat_le (from + 64) (length bits)) (list_all (λ b. b) (slice_range bits from (from + 64))) seen)

  all_true : list_all (λ b. b) (slice_range bits from (from + 64)) ≡ true
  all_true = second_so (nat_le (from + 64) (length bits)) (list_all (λ b. b) (slice_range bits from (from + 64))) seen

  pub block_true : AreTrue bits from (from + 64)
  block_true i order inside =
      let n : ℕ = from + 64 - from in let j : ℕ = i - from in
      let place : from + j ≡ i = omega (arith, order) in
      let near : j < n = omega (arith, order, inside) in
      let fits = block_fits in
      let left = length-drop from bits in
      let count : length (take n (drop from bits)) ≡ n = length-take-le n (drop from bits) (omega (arith, left, fits)) in
      ap (λ k. get_or bits k false) (sym place) ∙ sym (get_or-drop from bits j false) ∙ sym (get_or-take n (drop from bits) j false near)
      ∙ true_at (take n (drop from bits)) j all_true (omega (arith, count, near))

-- ---- runs after runs

pub none_true : (bits : List Bool) (from : ℕ) → AreTrue bits from from
none_true bits from = λ i order inside. absurd (omega (arith, order, inside))

pub true_on : (bits : List Bool) (from mid to : ℕ) → AreTrue bits from mid → AreTrue bits mid to → AreTrue bits from to
true_on bits from mid to front back i order inside = by_place (nat_le mid i) refl
  where
    by_place : (b : Bool) → nat_le mid i ≡ b → get_or bits i false ≡ true
    by_place true h = back i (leb-true mid i h) inside
    by_place false h = front i order (grind (arith, nat_tests, h))

pub one_true : (bits : List Bool) (at : ℕ) (b : Bool) → b ≡ get_or bits at false → b ≡ true → AreTrue bits at (at + 1)
one_true bits at b is holds i order inside = let here : i ≡ at = omega (arith, order, inside) in ap (λ k. get_or bits k false) here ∙ sym is ∙ holds

-- the first that isn't true comes after one that is
pub moves_on : (bits : List Bool) (at end : ℕ) (b : Bool) → b ≡ get_or bits at false → b ≡ true → at ≤ end → at < length bits → (end < length bits → get_or bits end false ≡ false) → at < end
moves_on bits at end b is holds order inside stops = by_place (nat_le end at) refl
  where
    by_place : (b : Bool) → nat_le end at ≡ b → at < end
    by_place true h =
        let low = leb-true end at h in let same : end ≡ at = omega (arith, order, low) in
        absurd (cc (sym holds ∙ is ∙ ap (λ k. get_or bits k false) (sym same) ∙ stops (omega (arith, same, inside))))
    by_place false h = grind (arith, nat_tests, h)
