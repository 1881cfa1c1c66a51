-- An integer within a type is equal to its low bits.
use Rattle.std.proofs.Common.{◌≡◌, ℤ, pos, negsuc, true, subst, ◌∙◌, arith}
use Rattle.std.specs.Ordering.{int_eq}
use Rattle.std.proofs.lemmas.Bool.Decides.{same_from_decides, Decides-int_eq}
use Rattle.std.specs.Int.{w8, w16, w32, w64}
use Rattle.std.proofs.lemmas.Int.{ints}
use Rattle.num_traits.specs.Ints.{unsigned-wrap, signed-wrap}
use Rattle.vortex_model.specs.LogicalType.{IntKind, u8, u16, u32, u64, i8, i16, i32, i64}
use Rattle.vortex_model.specs.Valid.{in_range}
use Rattle.vortex_arrays_cast.specs.Cast.{low_bits}

pub low_bits_held : (k : IntKind) (z : ℤ) → in_range k z ≡ true → low_bits k z ≡ z
low_bits_held u8 (pos n) h = unsigned-wrap 8 (pos n) (grind (arith, ints, h))
low_bits_held u8 (negsuc n) h = absurd (cc h)
low_bits_held u16 (pos n) h = unsigned-wrap 16 (pos n) (grind (arith, ints, h))
low_bits_held u16 (negsuc n) h = absurd (cc h)
low_bits_held u32 (pos n) h = unsigned-wrap 32 (pos n) (grind (arith, ints, h))
low_bits_held u32 (negsuc n) h = absurd (cc h)
low_bits_held u64 (pos n) h = unsigned-wrap 64 (pos n) (grind (arith, ints, h))
low_bits_held u64 (negsuc n) h = absurd (cc h)
low_bits_held i8 z h = signed-wrap w8 z (grind (arith, ints, h))
low_bits_held i16 z h = signed-wrap w16 z (grind (arith, ints, h))
low_bits_held i32 z h = signed-wrap w32 z (grind (arith, ints, h))
low_bits_held i64 z h = signed-wrap w64 z (grind (arith, ints, h))

-- the type has an integer that is equal to its low bits
pub held_where_same : (k : IntKind) (low z : ℤ) → low ≡ low_bits k z → in_range k low ≡ true → int_eq low z ≡ in_range k z
held_where_same k low z e held =
    same_from_decides (int_eq low z) (in_range k z) (Decides-int_eq low z) (λ h. e ∙ low_bits_held k z h, λ s. subst (λ n. in_range k n ≡ true) s held)
