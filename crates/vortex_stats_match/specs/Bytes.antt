-- LIKE patterns over bytes: a character is a byte and those that go on with it.
use Rattle.std.specs.Prelude.{ℕ, List, [], ◌∷◌, ◌&&◌, Bool, true, false, not, cond, if◌then◌else◌, ◌==◌, nat_lt}
use Rattle.std.specs.Prelude.{Option, Some, None}
use Rattle.vortex_model_table.specs.Like.{some_end}

-- a byte that begins no character, as one of the bits 10 and six more does in UTF-8
abbrev pub goes_on : ℕ → Bool
goes_on b = not (nat_lt b 128) && nat_lt b 192

abbrev pub begins_inside : List ℕ → Bool
begins_inside [] = false
begins_inside (b ∷ bs) = goes_on b

-- from the next start of a character on
abbrev pub past_char : List ℕ → List ℕ
past_char [] = []
past_char (b ∷ bs) = cond (goes_on b) (past_char bs) (b ∷ bs)

-- What one sign leaves of a string: _ (95) takes a whole character, and each other sign itself.
abbrev pub left_by : ℕ → List ℕ → Option (List ℕ)
left_by a [] = None
left_by a (b ∷ bs) = if a == 95 then (if goes_on b then None else Some (past_char bs))
    else (if a == b then Some bs else None)

-- something is left, and passes the test
abbrev pub is_left : (List ℕ → Bool) → Option (List ℕ) → Bool
is_left p None = false
is_left p (Some bs) = p bs

-- In bytes of UTF-8: % (37) matches any run, _ any one character, each other byte itself.
abbrev pub byte_matches : List ℕ → List ℕ → Bool
byte_matches [] [] = true
byte_matches [] (b ∷ bs) = false
byte_matches (a ∷ rest) bs = if a == 37 then some_end (byte_matches rest) bs
    else is_left (byte_matches rest) (left_by a bs)
