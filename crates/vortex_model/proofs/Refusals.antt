-- First refusals.
use Rattle.std.proofs.Common.{◌≡◌, refl, Option, Some, None}
use Rattle.vortex_model.specs.Refusal.{Refusal, or_else}

pub first_none : (p q : Option Refusal) → or_else p q ≡ None → p ≡ None
first_none None q e = refl
first_none (Some r) q e = absurd (cc (e))

pub second_none : (p q : Option Refusal) → or_else p q ≡ None → q ≡ None
second_none None q e = e
second_none (Some r) q e = absurd (cc (e))

pub or_else_joins : (p q s : Option Refusal) → or_else (or_else p q) s ≡ or_else p (or_else q s)
or_else_joins None q s = refl
or_else_joins (Some r) q s = refl
