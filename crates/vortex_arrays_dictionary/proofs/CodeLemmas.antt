-- Numbers in the narrowest type that has them.
use Rattle.std.proofs.Common.{◌≡◌, ◌≤◌, ◌-◌, ℕ, ℤ, pos, true, IsTrue, List, map, get_or, sym, ap, subst, ◌∙◌, arith}
use Rattle.std.specs.List.{All}
use Rattle.vortex_model.specs.LogicalType.{IntKind, u8, u16, u32, u64}
use Rattle.vortex_model.specs.Valid.{InRange, in_range}
use Rattle.std.proofs.lemmas.Int.{ints}
use Rattle.vortex_model.proofs.Passes.{range_passes}
use Rattle.vortex_dtype_ptype.specs.Numbers.{NumberKind, integral, floating, is_natural, is_unsigned, Has, IsNarrowest}
use Rattle.vortex_arrays_model.specs.Layout.{Layout, numbers, Valid}
use Rattle.vortex_arrays_dictionary.specs.Codes.{AreCodes}

-- a number at most as large as one within an unsigned type is within it
below : (k : IntKind) (n m : ℕ) → is_natural k ≡ true → InRange k (pos m) → n ≤ m → InRange k (pos n)
below u8 n m s h le = let t = h.to in record { from = omega (arith, ints); to = omega (arith, ints, t) }
below u16 n m s h le = let t = h.to in record { from = omega (arith, ints); to = omega (arith, ints, t) }
below u32 n m s h le = let t = h.to in record { from = omega (arith, ints); to = omega (arith, ints, t) }
below u64 n m s h le = let t = h.to in record { from = omega (arith, ints); to = omega (arith, ints, t) }
below k n m s h le = absurd (cc (s))

pub narrow_unsigned : (k : NumberKind) (m : ℕ) → IsNarrowest true (pos m) k → IsTrue (is_unsigned k)
narrow_unsigned (integral k) m h = h.sign
narrow_unsigned (floating f) m h = absurd h

pub all_held : (k : NumberKind) (ns : List ℕ) (m : ℕ) → IsNarrowest true (pos m) k → All (λ n. n ≤ m) ns → All (λ n. Has k (pos n)) ns
all_held (integral k) ns m h small = λ i d l. below k (get_or ns i d) m h.sign h.holds (small i d l)
all_held (floating f) ns m h small = absurd h

pub codes_made : (k : NumberKind) (i : IntKind) (zs : List ℤ) (ns : List ℕ) (m : ℕ) (v : Valid) (a : Layout) → IsNarrowest true (pos (m - 1)) k → integral i ≡ k → zs ≡ map pos ns → a ≡ numbers i zs v → AreCodes ns m v a
codes_made k i zs ns m v a h e f made = record {
  kind = i;
  made = made ∙ ap (λ ys. numbers i ys v) f;
  narrow = subst (IsNarrowest true (pos (m - 1))) (sym e) h;
}

pub ruleset narrow = (narrow_unsigned, all_held, codes_made)

-- an integer within a type is one of the native type
pub held_native : (k : NumberKind) (i : IntKind) (ns : List ℕ) → integral i ≡ k → All (λ n. Has k (pos n)) ns → All (λ n. in_range i (pos n) ≡ true) ns
held_native k i ns e h = λ j d l. range_passes i (pos (get_or ns j d)) (subst (λ x. Has x (pos (get_or ns j d))) (sym e) (h j d l))

pub ruleset held = (held_native)
