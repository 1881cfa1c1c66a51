-- Laws of unions of bounds.
use Rattle.std.specs.Prelude.{◌≡◌, ◌⊎◌, Bool, true, Option, Some, None, is_some}
use Rattle.std.specs.Option.{ForSome, option_and_then}
use Rattle.std.specs.declared.cmp.Ordering.TheVariants.{Equal}
use Rattle.vortex_model_table.specs.Statistics.{Precision}
use Rattle.vortex_stats_bound.specs.Precision.{known_value, Maps}
use Rattle.vortex_stats_bound.specs.Order.{Comparison}
use Rattle.vortex_stats_bound.specs.Bounds.{Union}

-- Both are None, or they have the same precision and R relates their values.
abbrev pub AreAlike : {A : Type 0} → (A → A → Type 0) →
    Option (Precision A) → Option (Precision A) → Type 0
AreAlike R None None = Unit {0}
AreAlike R (Some p) (Some q) = Maps R p q
AreAlike R m n = ⊥

-- The values are the same, or compare as equal.
abbrev pub Agree : {A : Type 0} → Comparison A → A → A → Type 0
Agree C a b = (a ≡ b) ⊎ (C a b ≡ Some Equal)

-- Unions commute, up to which of two equal values results.
abbrev pub Commutes : {A : Type 0} → (A → A → Type 0) → Union A → Type 0
Commutes {A} R union = (p q : Precision A) → AreAlike R (union p q) (union q p)

-- Of the values that pass, any two that compare with a third one compare.
abbrev pub ComparesInGroups : {A : Type 0} → Comparison A → (A → Bool) → Type 0
ComparesInGroups {A} C passes = (a b c : A) →
    passes a ≡ true → passes b ≡ true → passes c ≡ true →
    is_some (C a b) ≡ true → is_some (C b c) ≡ true → is_some (C a c) ≡ true

-- the value passes, if there is one
abbrev pub Passes : {A : Type 0} → (A → Bool) → Precision A → Type 0
Passes passes p = ForSome (known_value p) (λ a. passes a ≡ true)

-- Of three bounds whose values pass, it does not matter which two are united first.
abbrev pub Associates : {A : Type 0} → (A → Bool) → Union A → Type 0
Associates {A} passes union = (p q r : Precision A) →
    Passes passes p → Passes passes q → Passes passes r →
    option_and_then (λ u. union u r) (union p q) ≡ option_and_then (λ u. union p u) (union q r)
