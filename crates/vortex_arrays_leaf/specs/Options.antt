-- Integers that may be missing.
use Rattle.std.specs.Prelude.{ℤ, pos, Option, Some, None}
use Rattle.vortex_model.specs.Content.{Content, null, integer}

-- the integer, and null for `None`
abbrev pub content_of_option : {X : Type 0} → (X → ℤ) → Option X → Content
content_of_option number None = null
content_of_option number (Some x) = integer (number x)

-- the integer, and 0 for `None`
abbrev pub number_or_zero : {X : Type 0} → (X → ℤ) → Option X → ℤ
number_or_zero number None = pos 0
number_or_zero number (Some x) = number x
