-- Ranges of integer types.
use Rattle.std.proofs.Common.{◌≡◌, refl, ℤ, pos, neg_ℤ, ◌≤ℤ◌, ◌^◌, true, arith}
use Rattle.std.proofs.lemmas.Int.{ints}
use Rattle.vortex_model.specs.LogicalType.{IntKind, u8, u16, u32, u64, i8, i16, i32, i64}
use Rattle.vortex_model.specs.Valid.{InRange, in_range, least_number}
use Rattle.vortex_model.proofs.Tests.{range_so}

-- each integer type has 0
pub zero_within : (k : IntKind) → in_range k (pos 0) ≡ true
zero_within u8 = refl
zero_within u16 = refl
zero_within u32 = refl
zero_within u64 = refl
zero_within i8 = refl
zero_within i16 = refl
zero_within i32 = refl
zero_within i64 = refl

pub zero_fits : (k : IntKind) → InRange k (pos 0)
zero_fits k = range_so k (pos 0) (zero_within k)

pub least_below : (k : IntKind) → least_number k ≤ℤ pos 0
least_below u8 = omega (arith, ints)
least_below u16 = omega (arith, ints)
least_below u32 = omega (arith, ints)
least_below u64 = omega (arith, ints)
least_below i8 = omega (arith, ints)
least_below i16 = omega (arith, ints)
least_below i32 = omega (arith, ints)
least_below i64 = omega (arith, ints)

-- and no number beyond 2^64
pub not_below : (k : IntKind) (z : ℤ) → in_range k z ≡ true → neg_ℤ (pos (2 ^ 64)) ≤ℤ z
not_below u8 z h = grind (arith, ints, h)
not_below u16 z h = grind (arith, ints, h)
not_below u32 z h = grind (arith, ints, h)
not_below u64 z h = grind (arith, ints, h)
not_below i8 z h = grind (arith, ints, h)
not_below i16 z h = grind (arith, ints, h)
not_below i32 z h = grind (arith, ints, h)
not_below i64 z h = grind (arith, ints, h)

pub not_above : (k : IntKind) (z : ℤ) → in_range k z ≡ true → z ≤ℤ pos (2 ^ 64)
not_above u8 z h = grind (arith, ints, h)
not_above u16 z h = grind (arith, ints, h)
not_above u32 z h = grind (arith, ints, h)
not_above u64 z h = grind (arith, ints, h)
not_above i8 z h = grind (arith, ints, h)
not_above i16 z h = grind (arith, ints, h)
not_above i32 z h = grind (arith, ints, h)
not_above i64 z h = grind (arith, ints, h)
