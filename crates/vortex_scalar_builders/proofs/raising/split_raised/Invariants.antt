use Rattle.std.proofs.Common.{◌≡◌, ◌++◌, List, ℕ, chars, length}
use Rattle.std.specs.List.{AllByRecursion}
use denote.Text.{Utf8}
use denote.Shadow.{shadow}
use Rattle.vortex_model_table.specs.Bounds.{IsHighest}
use Rattle.vortex_scalar_builders.proofs.raising.split_raised.Given as goal

abbrev pub invariant-loop-front : goal.invariant-loop-front
invariant-loop-front l = shadow (Utf8 l.rest) × ((tail : List ℕ) × (chars l.text ≡ chars l.rest ++ tail) × AllByRecursion IsHighest tail)

abbrev pub decreases-loop-front : goal.decreases-loop-front
decreases-loop-front l = length (chars l.rest)
