-- Widths of integer types.
use Rattle.std.proofs.Common.{◌≡◌, ◌∙◌, ℕ, ℤ, pos, negsuc, ◌<◌, ◌≤◌, ◌≤ℤ◌, ◌-◌, ◌^◌, ◌⊎◌, Bool, true, false, IsTrue, refl, arith, lit<}
use Rattle.std.proofs.Math.Nat.{pow-le-pow_right}
use Rattle.std.proofs.lemmas.Int.{ints, clamps}
use Rattle.std.specs.Int.{int_max}
use Rattle.vortex_model.specs.LogicalType.{IntKind, u8, u16, u32, u64, i8, i16, i32, i64}
use Rattle.vortex_model.specs.Valid.{InRange}
use Rattle.vortex_dtype_ptype.specs.Numbers.{NumberKind, integral, floating, is_integral, reach_of, is_natural, HoldsNarrowly, HasByteWidth, HasSign, IsWiderOf}

-- An integer type that holds a number past a narrower type is at least as wide as the next.
reach-u8 : (n : ℕ) → (j : IntKind) → is_natural j ≡ true → InRange j (pos n) → reach_of u8 ≤ℤ reach_of j
reach-u8 n u8 s h = omega (arith, ints)
reach-u8 n u16 s h = omega (arith, ints)
reach-u8 n u32 s h = omega (arith, ints)
reach-u8 n u64 s h = omega (arith, ints)
reach-u8 n i8 s h = cc
reach-u8 n i16 s h = cc
reach-u8 n i32 s h = cc
reach-u8 n i64 s h = cc

reach-u16 : (n : ℕ) → 255 < n → (j : IntKind) → is_natural j ≡ true → InRange j (pos n) → reach_of u16 ≤ℤ reach_of j
reach-u16 n a u8 s h = omega (arith, ints)
reach-u16 n a u16 s h = omega (arith, ints)
reach-u16 n a u32 s h = omega (arith, ints)
reach-u16 n a u64 s h = omega (arith, ints)
reach-u16 n a i8 s h = cc
reach-u16 n a i16 s h = cc
reach-u16 n a i32 s h = cc
reach-u16 n a i64 s h = cc

reach-u32 : (n : ℕ) → 65535 < n → (j : IntKind) → is_natural j ≡ true → InRange j (pos n) → reach_of u32 ≤ℤ reach_of j
reach-u32 n a u8 s h = omega (arith, ints)
reach-u32 n a u16 s h = omega (arith, ints)
reach-u32 n a u32 s h = omega (arith, ints)
reach-u32 n a u64 s h = omega (arith, ints)
reach-u32 n a i8 s h = cc
reach-u32 n a i16 s h = cc
reach-u32 n a i32 s h = cc
reach-u32 n a i64 s h = cc

reach-u64 : (n : ℕ) → 4294967295 < n → (j : IntKind) → is_natural j ≡ true → InRange j (pos n) → reach_of u64 ≤ℤ reach_of j
reach-u64 n a u8 s h = omega (arith, ints)
reach-u64 n a u16 s h = omega (arith, ints)
reach-u64 n a u32 s h = omega (arith, ints)
reach-u64 n a u64 s h = omega (arith, ints)
reach-u64 n a i8 s h = cc
reach-u64 n a i16 s h = cc
reach-u64 n a i32 s h = cc
reach-u64 n a i64 s h = cc

reach-i8 : (z : ℤ) → (j : IntKind) → is_natural j ≡ false → InRange j z → reach_of i8 ≤ℤ reach_of j
reach-i8 z u8 s h = cc
reach-i8 z u16 s h = cc
reach-i8 z u32 s h = cc
reach-i8 z u64 s h = cc
reach-i8 z i8 s h = omega (arith, ints)
reach-i8 z i16 s h = omega (arith, ints)
reach-i8 z i32 s h = omega (arith, ints)
reach-i8 z i64 s h = omega (arith, ints)

reach-i16 : (z : ℤ) → (z ≤ℤ negsuc 128) ⊎ (pos 128 ≤ℤ z) → (j : IntKind) → is_natural j ≡ false → InRange j z → reach_of i16 ≤ℤ reach_of j
reach-i16 z a u8 s h = cc
reach-i16 z a u16 s h = cc
reach-i16 z a u32 s h = cc
reach-i16 z a u64 s h = cc
reach-i16 z a i8 s h = omega (arith, ints)
reach-i16 z a i16 s h = omega (arith, ints)
reach-i16 z a i32 s h = omega (arith, ints)
reach-i16 z a i64 s h = omega (arith, ints)

reach-i32 : (z : ℤ) → (z ≤ℤ negsuc 32768) ⊎ (pos 32768 ≤ℤ z) → (j : IntKind) → is_natural j ≡ false → InRange j z → reach_of i32 ≤ℤ reach_of j
reach-i32 z a u8 s h = cc
reach-i32 z a u16 s h = cc
reach-i32 z a u32 s h = cc
reach-i32 z a u64 s h = cc
reach-i32 z a i8 s h = omega (arith, ints)
reach-i32 z a i16 s h = omega (arith, ints)
reach-i32 z a i32 s h = omega (arith, ints)
reach-i32 z a i64 s h = omega (arith, ints)

reach-i64 : (z : ℤ) → (z ≤ℤ negsuc 2147483648) ⊎ (pos 2147483648 ≤ℤ z) → (j : IntKind) → is_natural j ≡ false → InRange j z → reach_of i64 ≤ℤ reach_of j
reach-i64 z a u8 s h = cc
reach-i64 z a u16 s h = cc
reach-i64 z a u32 s h = cc
reach-i64 z a u64 s h = cc
reach-i64 z a i8 s h = omega (arith, ints)
reach-i64 z a i16 s h = omega (arith, ints)
reach-i64 z a i32 s h = omega (arith, ints)
reach-i64 z a i64 s h = omega (arith, ints)

-- The narrowest integer type of a sign that holds a number.
pub narrow_u8 : (n : ℕ) → n ≤ 255 → HoldsNarrowly true (pos n) u8
narrow_u8 n b = record { sign = refl; holds = record { from = omega (arith, ints); to = omega (arith, ints) }; narrow = λ j s h. reach-u8 n j s h }

pub narrow_u16 : (n : ℕ) → 255 < n → n ≤ 65535 → HoldsNarrowly true (pos n) u16
narrow_u16 n a b = record { sign = refl; holds = record { from = omega (arith, ints); to = omega (arith, ints) }; narrow = λ j s h. reach-u16 n a j s h }

pub narrow_u32 : (n : ℕ) → 65535 < n → n ≤ 4294967295 → HoldsNarrowly true (pos n) u32
narrow_u32 n a b = record { sign = refl; holds = record { from = omega (arith, ints); to = omega (arith, ints) }; narrow = λ j s h. reach-u32 n a j s h }

pub narrow_u64 : (n : ℕ) → 4294967295 < n → n < 2 ^ 64 → HoldsNarrowly true (pos n) u64
narrow_u64 n a b = record { sign = refl; holds = record { from = omega (arith, ints); to = omega (arith, ints) }; narrow = λ j s h. reach-u64 n a j s h }

pub narrow_i8 : (z : ℤ) → negsuc 127 ≤ℤ z → z ≤ℤ pos 127 → HoldsNarrowly false z i8
narrow_i8 z b c = record { sign = refl; holds = record { from = b; to = c }; narrow = λ j s h. reach-i8 z j s h }

pub narrow_i16 : (z : ℤ) → (z ≤ℤ negsuc 128) ⊎ (pos 128 ≤ℤ z) → negsuc 32767 ≤ℤ z → z ≤ℤ pos 32767 → HoldsNarrowly false z i16
narrow_i16 z a b c = record { sign = refl; holds = record { from = b; to = c }; narrow = λ j s h. reach-i16 z a j s h }

pub narrow_i32 : (z : ℤ) → (z ≤ℤ negsuc 32768) ⊎ (pos 32768 ≤ℤ z) → negsuc 2147483647 ≤ℤ z → z ≤ℤ pos 2147483647 → HoldsNarrowly false z i32
narrow_i32 z a b c = record { sign = refl; holds = record { from = b; to = c }; narrow = λ j s h. reach-i32 z a j s h }

pub narrow_i64 : (z : ℤ) → (z ≤ℤ negsuc 2147483648) ⊎ (pos 2147483648 ≤ℤ z) → negsuc 9223372036854775807 ≤ℤ z → z ≤ℤ pos 9223372036854775807 → HoldsNarrowly false z i64
narrow_i64 z a b c = record { sign = refl; holds = record { from = b; to = c }; narrow = λ j s h. reach-i64 z a j s h }

pub ruleset narrow_unsigned = (narrow_u8, narrow_u16, narrow_u32, narrow_u64)

pub ruleset narrow_signed = (narrow_i8, narrow_i16, narrow_i32, narrow_i64)

-- The wider of two integer types.
reach_is : (i : IntKind) (w : ℕ) → HasByteWidth (integral i) w → reach_of i ≡ pos (256 ^ w - 1)
reach_is u8 w h = omega (arith, ints)
reach_is u16 w h = omega (arith, ints)
reach_is u32 w h = omega (arith, ints)
reach_is u64 w h = omega (arith, ints)
reach_is i8 w h = omega (arith, ints)
reach_is i16 w h = omega (arith, ints)
reach_is i32 w h = omega (arith, ints)
reach_is i64 w h = omega (arith, ints)

wider_reach : (i j : IntKind) (v w : ℕ) → HasByteWidth (integral i) v → HasByteWidth (integral j) w → w ≤ v → reach_of j ≤ℤ reach_of i
wider_reach i j v w p q le =
    let a : reach_of i ≡ pos (256 ^ v - 1) = reach_is i v p in
    let b : reach_of j ≡ pos (256 ^ w - 1) = reach_is j w q in
    let c : 256 ^ w ≤ 256 ^ v = pow-le-pow_right (lit< tt) le in
    omega (arith, ints)

first_is_max : (x y : ℤ) → y ≤ℤ x → x ≡ int_max x y
first_is_max x y h = omega (arith, ints, clamps)

second_is_max : (x y : ℤ) → y ≤ℤ x → x ≡ int_max y x
second_is_max x y h = omega (arith, ints, clamps)

pub wider_first : (natural : Bool) (a b k : NumberKind) (v w : ℕ) → HasByteWidth a v → HasByteWidth b w → IsTrue (is_integral a) → IsTrue (is_integral b) → w ≤ v → HasSign natural a k → IsWiderOf natural a b k
wider_first natural (integral i) (integral j) (integral k) v w p q x y le s = (s.0, s.1 ∙ first_is_max (reach_of i) (reach_of j) (wider_reach i j v w p q le))
wider_first natural (floating f) b k v w p q x y le s = absurd (cc)
wider_first natural (integral i) (floating f) k v w p q x y le s = absurd (cc)
wider_first natural (integral i) (integral j) (floating f) v w p q x y le s = absurd s

pub wider_second : (natural : Bool) (a b k : NumberKind) (v w : ℕ) → HasByteWidth a v → HasByteWidth b w → IsTrue (is_integral a) → IsTrue (is_integral b) → v < w → HasSign natural b k → IsWiderOf natural a b k
wider_second natural (integral i) (integral j) (integral k) v w p q x y le s = (s.0, s.1 ∙ second_is_max (reach_of j) (reach_of i) (wider_reach j i w v q p (omega arith)))
wider_second natural (floating f) b k v w p q x y le s = absurd (cc)
wider_second natural (integral i) (floating f) k v w p q x y le s = absurd (cc)
wider_second natural (integral i) (integral j) (floating f) v w p q x y le s = absurd s

pub ruleset wider = (wider_first, wider_second)
