-- One line of an input, and how it is written.
use Rattle.std.specs.Prelude.{◌≢◌, ℕ, List, [], ◌∷◌, ◌++◌, All}

-- no byte is an LF
abbrev pub IsOneLine : List ℕ → Type 0
IsOneLine bytes = All (λ b. b ≢ 10) bytes

abbrev pub with_lf : List ℕ → List ℕ
with_lf text = text ++ 10 ∷ []
