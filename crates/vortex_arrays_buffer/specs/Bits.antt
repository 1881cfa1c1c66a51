-- Bits, eight to a byte, the lowest first.
use Rattle.std.specs.Prelude.{ℕ, suc, ◌/◌, ◌%◌, ◌==◌, Bool, true, false, List, [], ◌∷◌, map, nat_eq, slice_index}
use Rattle.std.specs.Int.{bit_at}
use Rattle.std.specs.List.{range_with_len, list_any}

-- the bit at an index of the bytes
abbrev pub bit_of : List ℕ → ℕ → Bool
bit_of bytes i = bit_at (slice_index bytes (i / 8)) (i % 8) == 1

-- n bits from an index on
abbrev pub bits_of : List ℕ → ℕ → ℕ → List Bool
bits_of bytes start n = map (bit_of bytes) (range_with_len start n)

-- n bits, of which just those at the indices are true
abbrev pub bits_at : ℕ → List ℕ → List Bool
bits_at n places = map (λ i. list_any (nat_eq i) places) (range_with_len 0 n)

-- the indices of the true bits, ascending, where the first bit is at i
abbrev pub positions_from : ℕ → List Bool → List ℕ
positions_from i [] = []
positions_from i (true ∷ bits) = i ∷ positions_from (suc i) bits
positions_from i (false ∷ bits) = positions_from (suc i) bits

abbrev pub positions_of : List Bool → List ℕ
positions_of bits = positions_from 0 bits
