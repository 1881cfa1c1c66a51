-- JSON strings in which nothing is escaped.
use Rattle.std.proofs.Common.{◌≡◌, ℕ, List, [], ◌∷◌, ◌++◌, append_assoc}
use Rattle.json.specs.Print.{quoted, escape}

-- two quotes and the bytes between them
pub between_quotes : (old a b new xs : List ℕ) → escape xs ≡ xs → a ≡ old ++ 34 ∷ []
    → b ≡ a ++ xs → new ≡ b ++ 34 ∷ [] → new ≡ old ++ quoted xs
between_quotes old a b new xs e p q r = rw (r, q, p, e) (simp append_assoc)
