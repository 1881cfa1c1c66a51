-- The rest of a column, value by value.
use Rattle.std.proofs.Common.{◌≡◌, ◌<◌, ◌+◌, ℕ, zero, suc, List, [], ◌∷◌, length, map, drop, get_or, Option, Bor, sym, ap, ◌∙◌, arith}
use Rattle.vortex_scalar_value.specs.View.{content_at}
use Rattle.vortex_scalar_value.specs.declared.scalar_value.ScalarValue.{ScalarValue}
use Rattle.vortex_scalar_value.proofs.Nulls.{never_null}

abbrev Value : Type 0
Value = Option (Bor ScalarValue)

-- the value at an index goes before the others
pub left_at : (vs : List Value) (i : ℕ) (v : Value) → i < length vs → v ≡ get_or vs i v → map content_at (drop i vs) ≡ content_at v ∷ map content_at (drop (i + 1) vs)
left_at [] i v l e = absurd (omega arith)
left_at (x ∷ vs) zero v l e = ap (λ y. content_at y ∷ map content_at vs) (sym e)
left_at (x ∷ vs) (suc i) v l e = left_at vs i v (omega (arith, l)) e ∙ ap (λ n. content_at v ∷ map content_at (drop n (x ∷ vs))) (let s : suc (i + 1) ≡ suc i + 1 = omega arith in s)

pub ruleset equal = (left_at)

pub ruleset present = (never_null, left_at)
