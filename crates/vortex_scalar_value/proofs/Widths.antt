-- Widths of integers.
use Rattle.std.proofs.Common.{ℕ, ◌≤◌, arith}
use Rattle.vortex_model.specs.LogicalType.{IntKind, u8, u16, u32, u64, i8, i16, i32, i64}
use Rattle.vortex_dtype_ptype.specs.Numbers.{integral, HasByteWidth}
use Rattle.vortex_dtype_native.proofs.Encoded.{width_u8, width_u16, width_u32, width_u64, width_i8, width_i16, width_i32, width_i64}

-- an integer has at most eight bytes
pub at_most_eight : (i : IntKind) (n : ℕ) → HasByteWidth (integral i) n → n ≤ 8
at_most_eight u8 n h = omega (arith, width_u8 n h)
at_most_eight u16 n h = omega (arith, width_u16 n h)
at_most_eight u32 n h = omega (arith, width_u32 n h)
at_most_eight u64 n h = omega (arith, width_u64 n h)
at_most_eight i8 n h = omega (arith, width_i8 n h)
at_most_eight i16 n h = omega (arith, width_i16 n h)
at_most_eight i32 n h = omega (arith, width_i32 n h)
at_most_eight i64 n h = omega (arith, width_i64 n h)
