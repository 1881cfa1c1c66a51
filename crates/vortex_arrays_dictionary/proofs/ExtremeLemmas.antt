-- Types that have integers, one after another.
use Rattle.std.proofs.Common.{◌≡◌, ◌<◌, ◌≤ℤ◌, ◌+◌, ℕ, ℤ, pos, Bool, true, false, List, length, get_or, refl, sym, ap, subst, ◌∙◌, arith, inl, inr}
use Rattle.std.specs.Int.{int_min, int_max}
use Rattle.std.proofs.lemmas.Int.{ints, clamps}
use Rattle.std.proofs.lemmas.Bool.{cases_eq}
use Rattle.vortex_model.specs.LogicalType.{IntKind, u8, u16, u32, u64, i8, i16, i32, i64}
use Rattle.vortex_model.specs.Valid.{InRange, greatest_number}
use Rattle.vortex_model.proofs.Ranges.{zero_fits, least_below}
use Rattle.vortex_arrays_model.specs.Layout.{Valid, required, all_valid, all_null, is_valid}
use Rattle.vortex_arrays_validity.specs.Validities.{valid_rows}
use Rattle.vortex_arrays_validity.proofs.Rows.{bit_says, row_count}
use Rattle.vortex_arrays_dictionary.specs.Narrowed.{AreExtremes}

greatest_above : (k : IntKind) → pos 0 ≤ℤ greatest_number k
greatest_above u8 = omega (arith, ints)
greatest_above u16 = omega (arith, ints)
greatest_above u32 = omega (arith, ints)
greatest_above u64 = omega (arith, ints)
greatest_above i8 = omega (arith, ints)
greatest_above i16 = omega (arith, ints)
greatest_above i32 = omega (arith, ints)
greatest_above i64 = omega (arith, ints)

pub none_yet : (counts : ℕ → Bool) (zs : List ℤ) → AreExtremes counts zs 0 (pos 0) (pos 0)
none_yet counts zs = record {
  low = omega (arith, ints);
  high = omega (arith, ints);
  held = λ k h. (zero_fits k, zero_fits k);
  hold = λ k x y i l. absurd (omega (arith, l));
}

-- one more integer, which counts
pub one_counts : (counts : ℕ → Bool) (zs : List ℤ) (n : ℕ) (x y z : ℤ) → AreExtremes counts zs n x y → z ≡ get_or zs n (pos 0) → counts n ≡ true → AreExtremes counts zs (n + 1) (int_min z x) (int_max z y)
one_counts counts zs n x y z h e c = record {
  low = let l = h.low in omega (arith, ints, clamps, l);
  high = let l = h.high in omega (arith, ints, clamps, l);
  held = λ k all.
      let before = h.held k (λ i l. all i (omega (arith, l))) in
      let here : InRange k z = subst (InRange k) (sym e) (all n (omega arith) c) in
      let a = before.0.from in let b = before.0.to in let a' = before.1.from in let b' = before.1.to in
      let f = here.from in let t = here.to in
      (record { from = omega (arith, ints, clamps, a, f); to = omega (arith, ints, clamps, b, t) }, record { from = omega (arith, ints, clamps, a', f); to = omega (arith, ints, clamps, b', t) });
  hold = λ k lo hi i l d.
      let p = lo.from in let q = hi.to in let low = h.low in let high = h.high in
      let lk = least_below k in let gk = greatest_above k in
      elim (cases_eq i n) [
        | inl same ↦ subst (InRange k) (e ∙ ap (λ m. get_or zs m (pos 0)) (sym same)) (record { from = omega (arith, ints, clamps, p); to = omega (arith, ints, clamps, q) })
        | inr other ↦ h.hold k (record { from = omega (arith, ints, clamps, p); to = omega (arith, ints, gk, low) }) (record { from = omega (arith, ints, lk, high); to = omega (arith, ints, clamps, q) }) i (omega (arith, l, other)) d
      ];
}

-- one more integer, which doesn't count
pub one_passed : (counts : ℕ → Bool) (zs : List ℤ) (n : ℕ) (x y : ℤ) → AreExtremes counts zs n x y → counts n ≡ false → AreExtremes counts zs (n + 1) x y
one_passed counts zs n x y h c = record {
  low = h.low;
  high = h.high;
  held = λ k all. h.held k (λ i l. all i (omega (arith, l)));
  hold = λ k lo hi i l d. elim (cases_eq i n) [
    | inl same ↦ absurd (cc (c, d, ap counts same))
    | inr other ↦ h.hold k lo hi i (omega (arith, l, other)) d
  ];
}

pub ruleset steps = (none_yet, one_counts, one_passed)

-- integers that count by the same test
same_counts : (c d : ℕ → Bool) (zs : List ℤ) (n : ℕ) (x y : ℤ) → ((i : ℕ) → i < n → c i ≡ d i) → AreExtremes c zs n x y → AreExtremes d zs n x y
same_counts c d zs n x y e h = record {
  low = h.low;
  high = h.high;
  held = λ k all. h.held k (λ i l s. all i l (sym (e i l) ∙ s));
  hold = λ k lo hi i l s. h.hold k lo hi i l (e i l ∙ s);
}

-- the bits of a mask are the rows of its validity
pub by_bits : (v : Valid) (bits : List Bool) (zs : List ℤ) (x y : ℤ) → bits ≡ valid_rows v (length zs) → AreExtremes (λ i. get_or bits i false) zs (length zs) x y → AreExtremes (is_valid v) zs (length zs) x y
by_bits v bits zs x y e h = same_counts (λ i. get_or bits i false) (is_valid v) zs (length zs) x y (λ i l. bit_says v bits (length zs) i e l) h

pub all_count : (zs : List ℤ) (x y : ℤ) → AreExtremes (λ i. true) zs (length zs) x y → AreExtremes (is_valid all_valid) zs (length zs) x y
all_count zs x y h = same_counts (λ i. true) (is_valid all_valid) zs (length zs) x y (λ i l. refl) h

pub all_required : (zs : List ℤ) (x y : ℤ) → AreExtremes (λ i. true) zs (length zs) x y → AreExtremes (is_valid required) zs (length zs) x y
all_required zs x y h = same_counts (λ i. true) (is_valid required) zs (length zs) x y (λ i l. refl) h

pub none_counts : (zs : List ℤ) (n : ℕ) → AreExtremes (is_valid all_null) zs n (pos 0) (pos 0)
none_counts zs n = record {
  low = omega (arith, ints);
  high = omega (arith, ints);
  held = λ k h. (zero_fits k, zero_fits k);
  hold = λ k x y i l c. absurd (cc (c));
}

pub ruleset by_validity = (by_bits, all_count, all_required, none_counts, row_count)
