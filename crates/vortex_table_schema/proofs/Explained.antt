-- When an error says why.
use Rattle.std.proofs.Common.{◌≡◌, refl, sym, ◌∙◌, ap, subst, Option, Some, None, is_none, IsTrue}
use Rattle.vortex_model.specs.Refusal.{Refusal, or_else}
use Rattle.vortex_model.proofs.Refusals.{or_else_joins}
use Rattle.vortex_table_schema.specs.declared.error.TableError.{TableError}
use Rattle.vortex_table_schema.specs.declared.error.TableError.TheVariants as error
use Rattle.vortex_table_schema.specs.Error.{refusal_of, Explains}

-- the error is the refusal
pub explained : (Passes : Type 0) (fault : Option Refusal) (r : Refusal) (e : TableError) → fault ≡ Some r → refusal_of e ≡ Some r → Explains Passes fault e
explained Passes fault r error.Memory h g = tt
explained Passes fault r error.Total h g = absurd (cc (g))
explained Passes fault r error.RuleFault h g = absurd (cc (g))
explained Passes fault r e h g = h ∙ sym g

-- what explains the first refusal explains both
pub explained_first : (Passes : Type 0) (p q : Option Refusal) (e : TableError) → Explains ⊥ p e → Explains Passes (or_else p q) e
explained_first Passes p q error.Memory h = tt
explained_first Passes p q error.Total h = absurd h
explained_first Passes p q error.RuleFault h = absurd h
explained_first Passes p q e h = ap (λ o. or_else o q) h

pub explained_second : (Passes : Type 0) (p q : Option Refusal) (e : TableError) → p ≡ None → Explains Passes q e → Explains Passes (or_else p q) e
explained_second Passes p q error.Memory h g = tt
explained_second Passes p q error.Total h g = g
explained_second Passes p q error.RuleFault h g = absurd g
explained_second Passes p q e h g = ap (λ o. or_else o q) h ∙ g

-- what explains the first two refusals explains all three
pub explained_two : (Passes : Type 0) (p q r : Option Refusal) (e : TableError) → Explains ⊥ (or_else p q) e → Explains Passes (or_else p (or_else q r)) e
explained_two Passes p q r e h = subst (λ o. Explains Passes o e) (or_else_joins p q r) (explained_first Passes (or_else p q) r e h)

pub none_both : (p q : Option Refusal) → p ≡ None → q ≡ None → or_else p q ≡ None
none_both p q h g = ap (λ o. or_else o q) h ∙ g

-- there is no fault
pub none_so : (o : Option Refusal) → IsTrue (is_none o) → o ≡ None
none_so None h = refl
none_so (Some r) h = absurd (cc (h))
