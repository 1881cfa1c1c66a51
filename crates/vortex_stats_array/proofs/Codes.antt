-- Codes of dictionaries.
use Rattle.std.proofs.Common.{◌≡◌, refl, ◌<◌, ℕ, ℤ, pos, negsuc}
use Rattle.vortex_model.specs.Content.{integer}
use Rattle.vortex_arrays_model.specs.Layout.{IsCode, natural}

-- an integer code is below n
pub code_below : (n : ℕ) (z : ℤ) → IsCode n (integer z) → z ≡ pos (natural z)
code_below n (pos j) h = refl
code_below n (negsuc j) h = absurd h

pub code_within : (n : ℕ) (z : ℤ) → IsCode n (integer z) → natural z < n
code_within n (pos j) h = h
code_within n (negsuc j) h = absurd h

pub ruleset codes = (code_below, code_within)
