-- What a LIKE pattern matches.
use Rattle.std.specs.Prelude.{ℕ, List, [], ◌∷◌, ◌||◌, ◌&&◌, Bool, true, false, if◌then◌else◌, ◌==◌, chars}
use Rattle.std.specs.List.{list_any}

-- some suffix of the list, which may be all of it or empty, passes the test
abbrev pub some_end : (List ℕ → Bool) → List ℕ → Bool
some_end p [] = p []
some_end p (c ∷ cs) = p (c ∷ cs) || some_end p cs

-- the list without its first item passes the test
abbrev pub after_one : (List ℕ → Bool) → List ℕ → Bool
after_one p [] = false
after_one p (c ∷ cs) = p cs

-- the first item is this character, and the rest passes the test
abbrev pub after_this : ℕ → (List ℕ → Bool) → List ℕ → Bool
after_this a p [] = false
after_this a p (c ∷ cs) = (a == c) && p cs

-- Both lists are characters: % (37) matches any run, _ (95) any one, and each other character
-- itself.
abbrev pub matches : List ℕ → List ℕ → Bool
matches [] [] = true
matches [] (c ∷ cs) = false
matches (a ∷ rest) cs = if a == 37 then some_end (matches rest) cs
    else (if a == 95 then after_one (matches rest) cs else after_this a (matches rest) cs)

-- Patterns with a backslash (92) are not defined here.
abbrev pub has_backslash : List ℕ → Bool
has_backslash form = list_any (λ b. b == 92) form

-- the whole string matches the pattern; both are UTF-8
abbrev pub is_like : List ℕ → List ℕ → Bool
is_like form value = matches (chars form) (chars value)
