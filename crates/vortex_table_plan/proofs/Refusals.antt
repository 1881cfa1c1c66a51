-- The proofs of predicates that scans accept, and why scans with callers' rules are refused.
use Rattle.std.proofs.Common.{◌≡◌, refl, sym, ◌∙◌, ap, subst, [], Bool, true, false, ◌||◌, Option, Some, None, IfSome, option_map}
use Rattle.vortex_model.specs.LogicalType.{LogicalType}
use Rattle.vortex_model_table.specs.Expression.{Expression}
use Rattle.vortex_model_table.specs.Typing.{expression_type}
use Rattle.vortex_model.specs.Refusal.{Refusal, not_boolean, or_else}
use Rattle.vortex_model_table.specs.Command.{expression_fault, predicate_fault, unless, is_boolean}
use Rattle.vortex_model_table.specs.Rewrite.{falsifier, satisfier}
use Rattle.vortex_model_rules.specs.Laws.{NoRulesAddNothing}
use Rattle.vortex_model_rules.specs.Rules.{Answer, is_fault, answer_of, fals, sat}
use Rattle.vortex_model_rules.specs.Scanned.{proof_of}
use Rattle.vortex_stats_bind.specs.Bindings.{IsBoundTo, IsBoundProof}
use Rattle.vortex_stats_bind.specs.Bound.{Bound, expression_of}
use Rattle.vortex_stats_bind.proofs.Alike.{bound_to, expression_of_bound}
use Rattle.vortex_stats_rules.specs.Refusals.{IsPredicate, IsRefusal}
use Rattle.vortex_stats_expr.specs.declared.error.StatsError.{StatsError}
use Rattle.vortex_stats_expr.specs.declared.error.StatsError.TheVariants as stats
use Rattle.vortex_table_schema.specs.Error.{Explains}
use Rattle.vortex_table_schema.specs.declared.error.TableError.{TableError}
use Rattle.vortex_table_schema.specs.declared.error.TableError.TheVariants as error
use Rattle.vortex_table_plan.specs.Rules.{IsAccepted, have_fault, ExplainsWith, IsOfRules, IsRuleError}

of_predicate : (p : Option Refusal) (b : Bool) → or_else p (unless b not_boolean) ≡ None → b ≡ true
of_predicate None true h = refl
of_predicate None false h = absurd (cc (h))
of_predicate (Some r) b h = absurd (cc (h))

-- what a scan accepts is of truth type
pub is_predicate : (k : LogicalType) (e : Expression) → predicate_fault k e ≡ None → IsPredicate k e
is_predicate k e h = of_predicate (expression_fault k e) (is_boolean (expression_type k e)) h

-- a rewrite of a predicate fails as memory runs out, or by a rule's fault
pub refused_so : (k : LogicalType) (e : Expression) (a : Answer) (x : StatsError) → IsPredicate k e → IsRefusal k e a x → IsOfRules (is_fault a) x
refused_so k e a stats.Memory h r = tt
refused_so k e a stats.NotBoolean h r = absurd (let g : true ≡ false = sym h ∙ r in cc (g))
refused_so k e a stats.RuleFault h r = ap is_fault r.1
refused_so k e a x h r = absurd r

-- ---- the proofs

pub accepted_to : (k : LogicalType) (e : Expression) (b : Bound) → IsAccepted k e b → IsBoundTo k b
accepted_to k e b is = bound_to k e b is.bound

pub accepted_so : (k : LogicalType) (e : Expression) (b : Bound) → IsAccepted k e b → expression_of b ≡ e
accepted_so k e b is = expression_of_bound k e b is.bound

-- what is answered of the bound predicate is answered of the predicate
pub answered_so : (k : LogicalType) (e : Expression) (b : Bound) (answer : Expression → Answer) (a : Answer) → IsAccepted k e b → answer (expression_of b) ≡ a → answer e ≡ a
answered_so k e b answer a is h = ap answer (sym (accepted_so k e b is)) ∙ h

pub fails_so : (k : LogicalType) (e : Expression) (b : Bound) (answer : Expression → Answer) (x : StatsError) → IsAccepted k e b → IsRefusal k (expression_of b) (answer (expression_of b)) x → IsOfRules (is_fault (answer e)) x
fails_so k e b answer x is r =
    let same = accepted_so k e b is in
    subst (λ d. IsOfRules (is_fault (answer d)) x) same
    (refused_so k (expression_of b) (answer (expression_of b)) x (is_predicate k (expression_of b) (ap (predicate_fault k) same ∙ is.faultless)) r)

pub proof_bound : (k : LogicalType) (o : Option Bound) → IfSome o (λ b. IsBoundTo k b) → IsBoundProof k (option_map expression_of o) o
proof_bound k None h = tt
proof_bound k (Some b) h = h

pub of_any : (b : Bool) (x : StatsError) → IsOfRules b x → IsOfRules true x
of_any b stats.Memory h = tt
of_any b stats.RuleFault h = refl
of_any b x h = absurd h

pub fault_first : (b c : Bool) (x : TableError) → IsRuleError b x → IsRuleError (b || c) x
fault_first b c error.Memory h = tt
fault_first b c error.RuleFault h = ap (λ t. t || c) h
fault_first b c x h = absurd h

pub fault_second : (b c : Bool) (x : TableError) → IsRuleError c x → IsRuleError (b || c) x
fault_second b c error.Memory h = tt
fault_second true c error.RuleFault h = refl
fault_second false c error.RuleFault h = h
fault_second b c x h = absurd h

-- the refusal of a scan, and a fault after it
pub refused_first : (o : Option Refusal) (b : Bool) (x : TableError) → Explains ⊥ o x → ExplainsWith o b x
refused_first o b error.RuleFault h = absurd h
refused_first o b x h = h

pub refused_behind : (o : Option Refusal) (b : Bool) (x : TableError) → o ≡ None → IsRuleError b x → ExplainsWith o b x
refused_behind o b error.Memory none h = tt
refused_behind o b error.RuleFault none h = (none, h)
refused_behind o b x none h = absurd h

-- ---- without rules

back : (o : Option Expression) → proof_of (answer_of o) ≡ o
back None = refl
back (Some p) = refl

-- an answer says one proof
pub one_proof : (a : Answer) (o p : Option Expression) → a ≡ answer_of o → a ≡ answer_of p → o ≡ p
one_proof a o p h g = sym (back o) ∙ ap proof_of (sym h ∙ g) ∙ back p

no_fault : (a : Answer) (o : Option Expression) → a ≡ answer_of o → is_fault a ≡ false
no_fault a None h = ap is_fault h
no_fault a (Some p) h = ap is_fault h

pub faultless_without : NoRulesAddNothing → (k : LogicalType) (e : Expression) → have_fault k [] e ≡ false
faultless_without law k e = λ i. no_fault (fals k [] e) (falsifier k e) (law k e).0 i || no_fault (sat k [] e) (satisfier k e) (law k e).1 i

pub refused_without : (o : Option Refusal) (b : Bool) (x : TableError) → b ≡ false → ExplainsWith o b x → Explains ⊥ o x
refused_without o b error.RuleFault none h = let g : true ≡ false = sym h.1 ∙ none in absurd (cc (g))
refused_without o b x none h = h

pub ruleset refusals = (fault_first, fault_second, refused_first, refused_behind)
