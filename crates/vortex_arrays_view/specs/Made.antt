-- The bytes of a view of a value, and the integers that order views.
use Rattle.std.specs.Prelude.{◌++◌, ℕ, List, take, drop, length, replicate, leb, cond}
use Rattle.std.specs.Int.{w32, w64, to_le_bytes, from_le_bytes, from_be_bytes}

-- the first n bytes of the value, padded with zeros
abbrev pub padded : ℕ → List ℕ → List ℕ
padded n value = take n (value ++ replicate n 0)

-- the view of a value of at most twelve bytes
abbrev pub short_view : List ℕ → List ℕ
short_view value = to_le_bytes w32 (length value) ++ padded 12 value

-- the view of a longer value, which is in a buffer
abbrev pub long_view : ℕ → List ℕ → ℕ → ℕ → List ℕ
long_view size prefix index offset =
    to_le_bytes w32 size ++ (prefix ++ (to_le_bytes w32 index ++ to_le_bytes w32 offset))

-- the view of a value, which is there in that buffer if it is long
abbrev pub view_of : List ℕ → ℕ → ℕ → List ℕ
view_of value index offset =
    cond (leb (length value) 12) (short_view value)
    (long_view (length value) (take 4 value) index offset)

-- The four bytes after the size; size and prefix as one integer; and what orders views: the prefix
-- and the last eight bytes as big-endian integers.
abbrev pub prefix_in : List ℕ → List ℕ
prefix_in b = take 4 (drop 4 b)

abbrev pub head_in : List ℕ → ℕ
head_in b = from_le_bytes w64 (take 8 b)

abbrev pub order_prefix_in : List ℕ → ℕ
order_prefix_in b = from_be_bytes w32 (prefix_in b)

abbrev pub order_tail_in : List ℕ → ℕ
order_tail_in b = from_be_bytes w64 (drop 8 b)

-- prefix, head, order prefix and order tail of a value
abbrev pub prefix_of : List ℕ → List ℕ
prefix_of value = padded 4 value

abbrev pub head_of : List ℕ → ℕ
head_of value = from_le_bytes w64 (to_le_bytes w32 (length value) ++ prefix_of value)

abbrev pub order_prefix_of : List ℕ → ℕ
order_prefix_of value = from_be_bytes w32 (prefix_of value)

abbrev pub order_tail_of : List ℕ → ℕ
order_tail_of value = from_be_bytes w64 (padded 8 (drop 4 value))
