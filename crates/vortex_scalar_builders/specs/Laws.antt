-- Statements of the laws of shortened bounds.
use Rattle.std.specs.Prelude.{◌≡◌, ℕ, ◌≤◌, length, Option, Some}
use Rattle.vortex_model.specs.Content.{Content}
use Rattle.vortex_model.specs.Order.{IsAtMost}
use Rattle.vortex_model_table.specs.Bounds.{IsLow, IsHigh, IsWellFormed, bytes_of, low, high}

-- `low` and `high` meet their definitions
abbrev pub LowsAreOfTheFunction : Type 0
LowsAreOfTheFunction = (v : Content) (L : ℕ) → IsWellFormed v → IsLow v L (low L v)

abbrev pub HighsAreOfTheFunction : Type 0
HighsAreOfTheFunction = (v : Content) (L : ℕ) → IsWellFormed v → IsHigh v L (high L v)

-- a value has one low, and at most one high
abbrev pub LowsAreUnique : Type 0
LowsAreUnique = (v l m : Content) (L : ℕ) → IsLow v L l → IsLow v L m → l ≡ m

abbrev pub HighsAreUnique : Type 0
HighsAreUnique = (v : Content) (h k : Option Content) (L : ℕ) → IsHigh v L h → IsHigh v L k → h ≡ k

-- A value not below the least is not below its low, and one not above the greatest is not above its
-- high.
abbrev pub LowsStayBelow : Type 0
LowsStayBelow = (least l v : Content) (L : ℕ) → IsLow least L l → IsAtMost least v → IsAtMost l v

abbrev pub HighsStayAbove : Type 0
HighsStayAbove = (greatest h v : Content) (L : ℕ) → IsHigh greatest L (Some h) →
    IsAtMost v greatest → IsAtMost v h

-- bounds are well-formed, and fit into L bytes
abbrev pub BoundsAreWellFormed : Type 0
BoundsAreWellFormed =
    (v : Content) (L : ℕ) → IsWellFormed v → ((l : Content) → IsLow v L l → IsWellFormed l) ×
    ((h : Content) → IsHigh v L (Some h) → IsWellFormed h)

abbrev pub BoundsFit : Type 0
BoundsFit = (v : Content) (L : ℕ) → ((l : Content) → IsLow v L l → length (bytes_of l) ≤ L) ×
    ((h : Content) → IsHigh v L (Some h) → length (bytes_of h) ≤ L)
