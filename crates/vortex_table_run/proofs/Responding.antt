-- Answers to the commands that sessions take.
use Rattle.std.proofs.Common.{◌≡◌, ℕ, List, map, Option, Some, None, refl, ap, sym, subst, ◌∙◌}
use Rattle.vortex_model.specs.LogicalType.{LogicalType}
use Rattle.vortex_model.specs.Path.{Step}
use Rattle.vortex_model_table.specs.Expression.{Expression}
use Rattle.vortex_model.specs.Refusal.{Refusal, no_table}
use Rattle.vortex_model_table.specs.Table.{Table}
use Rattle.vortex_model_table.specs.Scan.{ScanAnswer, scanned}
use Rattle.vortex_model_table.specs.Command.{Command, create, scan, describe, names_of, positions_of, refusal, refusal_in, create_fault}
use Rattle.vortex_model_table.specs.Reply.{refused, found, described, Describes, RespondsTo}
use Rattle.vortex_model_table.specs.ZoneMap.{ZoneMap}
use Rattle.vortex_table_core.specs.Totals.{PassesTotal}
use Rattle.vortex_table_schema.specs.Error.{Explains}
use Rattle.vortex_table_schema.specs.declared.error.TableError.{TableError}
use Rattle.vortex_table_schema.specs.declared.error.TableError.TheVariants as error
use Rattle.vortex_table_run.specs.CommandAnswers.{error_answer}
use Rattle.vortex_table_run.proofs.Errors.{explained}

create_refusal : (old : Option Table) (k : LogicalType) (n : ℕ) (lengths : List (List Step × ℕ)) → refusal_in old (create k n lengths) ≡ create_fault k lengths
create_refusal None k n lengths = refl
create_refusal (Some t) k n lengths = refl

-- no total is at fault
never : (fault : Option Refusal) (e : TableError) → Explains ⊥ fault e → e ≡ error.Total → fault ≡ None
never fault e x is = absurd (subst (λ (d : TableError). Explains ⊥ fault d) is x)

pub create_refused : (old : Option Table) (k : LogicalType) (n : ℕ) (lengths : List (List Step × ℕ)) (e : TableError) → Explains ⊥ (create_fault k lengths) e
    → RespondsTo PassesTotal old (create k n lengths) (error_answer e) old
create_refused old k n lengths e x =
    explained ⊥ old old (create k n lengths) (create_fault k lengths) e refl (create_refusal old k n lengths) (λ h. absurd h) (never (create_fault k lengths) e x) x

pub without_table : (old : Option Table) (c : Command) → old ≡ None → refusal_in None c ≡ Some no_table
    → RespondsTo PassesTotal old c (refused no_table) old
without_table old c none r = (ap (λ (o : Option Table). refusal_in o c) none ∙ r, refl)

-- a command to a table, which is refused for a reason or since this makes it pass a total
pub refused_for : (P : Type 0) (old new : Option Table) (t : Table) (c : Command) (e : TableError) → old ≡ Some t → new ≡ Some t
    → (P → PassesTotal (Some t) c) → Explains P (refusal t c) e → (e ≡ error.Total → refusal t c ≡ None)
    → RespondsTo PassesTotal old c (error_answer e) new
refused_for P old new t c e there same passes x behind =
    explained P old new c (refusal t c) e (same ∙ sym there)
    (ap (λ (o : Option Table). refusal_in o c) there) (λ h. subst (λ (o : Option Table). PassesTotal o c) (sym there) (passes h)) behind x

-- a command to a table that passes no total
pub refused_there : (old new : Option Table) (t : Table) (c : Command) (e : TableError) → old ≡ Some t → new ≡ Some t → Explains ⊥ (refusal t c) e
    → RespondsTo PassesTotal old c (error_answer e) new
refused_there old new t c e there same x =
    explained ⊥ old new c (refusal t c) e (same ∙ sym there)
    (ap (λ (o : Option Table). refusal_in o c) there) (λ h. absurd h) (never (refusal t c) e x) x

pub scan_found : (old : Option Table) (t : Table) (paths : List (List Step)) (p : Expression) (a : ScanAnswer)
    → old ≡ Some t → refusal t (scan paths p) ≡ None → a ≡ scanned t (map names_of paths) p
    → RespondsTo PassesTotal old (scan paths p) (found a) old
scan_found old t paths p a there accepted is =
    subst (λ (o : Option Table). RespondsTo PassesTotal o (scan paths p) (found a) o) (sym there) (accepted, ap found is, refl)

pub describe_found : (old : Option Table) (t : Table) (path : List Step) (i : ℕ) (z : ZoneMap)
    → old ≡ Some t → refusal t (describe path i) ≡ None → Describes t (positions_of t.kind path) i z
    → RespondsTo PassesTotal old (describe path i) (described z) old
describe_found old t path i z there accepted is =
    subst (λ (o : Option Table). RespondsTo PassesTotal o (describe path i) (described z) o) (sym there) (accepted, (z, is, refl), refl)
