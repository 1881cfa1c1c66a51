-- Little-endian bytes of integers.
use Rattle.std.specs.Prelude.{◌≡◌, ℕ, ℤ, pos, ◌+◌, ◌*◌, ◌^◌, ◌+ℤ◌, ◌⊎◌, List, [], ◌∷◌, length}
use Rattle.vortex_model.specs.LogicalType.{IntKind}
use Rattle.vortex_dtype_ptype.specs.Numbers.{NumberKind, integral, floating, HasByteWidth}

-- the number of little-endian bytes
abbrev pub number_of_bytes : List ℕ → ℕ
number_of_bytes [] = 0
number_of_bytes (b ∷ bs) = b + 256 * number_of_bytes bs

-- These are the little-endian bytes of z, as many as the integer type is wide. A negative integer
-- is in two's complement.
pub record AreBytesOf (i : IntKind) (z : ℤ) (bs : List ℕ) : Type 0 where
  pub width : HasByteWidth (integral i) (length bs)
  pub number : (pos (number_of_bytes bs) ≡ z) ⊎
      (pos (number_of_bytes bs) ≡ z +ℤ pos (256 ^ length bs))

-- `AreBytesOf` for a primitive type. No bytes are those of a float.
abbrev pub AreBytesOfKind : NumberKind → ℤ → List ℕ → Type 0
AreBytesOfKind (integral i) z bs = AreBytesOf i z bs
AreBytesOfKind (floating f) z bs = ⊥
