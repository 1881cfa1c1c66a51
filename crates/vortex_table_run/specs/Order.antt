-- Items written one after another.
use Rattle.std.specs.Prelude.{List, [], ◌∷◌, Bool, true}

-- whether something is in front of what follows these
abbrev pub is_later : {X : Type 0} → Bool → List X → Bool
is_later later [] = later
is_later later (x ∷ xs) = true
