-- Scans by the built-in proofs, and by those that are made with callers' rules.
use Rattle.std.proofs.Common.{◌≡◌, sym, ◌∙◌, ap, List, map, false, ◌||◌, Option, Some}
use Rattle.vortex_model.specs.LogicalType.{LogicalType}
use Rattle.vortex_model.specs.Path.{Names}
use Rattle.vortex_model_table.specs.Expression.{Expression}
use Rattle.vortex_model_table.specs.Cut.{cut_row, cut_type}
use Rattle.vortex_model_table.specs.Rewrite.{falsifier, satisfier}
use Rattle.vortex_model_table.specs.Table.{Table, IsTable}
use Rattle.vortex_model_table.specs.Scan.{ScanAnswer, scanned, skipped_chunks, whole_chunks, rows_tested, proofs}
use Rattle.vortex_model_table.specs.Pruning.{IsAsked}
use Rattle.vortex_model_laws.proofs.GroupSkipping.{none_lost}
use Rattle.vortex_model_laws.proofs.Skipping.{asked_sound}
use Rattle.vortex_model_rules.specs.Rules.{is_fault, answer_of, Rule, fals, sat}
use Rattle.vortex_model_rules.specs.Scanned.{scanned_by, by_answers, scanned_with}
use Rattle.vortex_model_rules.proofs.Scans.{as_proofs}
use Rattle.vortex_model_rules.proofs.FaultsOfAnswers.{no_fault}
use Rattle.vortex_table_plan.specs.Rules.{have_fault}

-- ---- a scan by the built-in proofs is that of the definitions

pub built_in : (t : Table) (paths : List Names) (e : Expression) → IsAsked t e → IsTable t → scanned_by t paths e (falsifier t.kind e) (satisfier t.kind e) ≡ scanned t paths e
built_in t paths e asked table = λ i. record {
  rows = ap (map (cut_row paths t.kind)) (sym (none_lost t e (asked_sound t e asked) table)) i;
  kind = cut_type paths t.kind;
  skipped = skipped_chunks t e;
  whole = whole_chunks t e;
  rows_tested = rows_tested t e;
  proofs = proofs t e;
}

pub found_built_in : (t : Table) (paths : List Names) (e : Expression) (p q : Option Expression) (a : ScanAnswer) → IsAsked t e → IsTable t →
    p ≡ falsifier t.kind e → q ≡ satisfier t.kind e → a ≡ scanned_by t paths e p q → a ≡ scanned t paths e
found_built_in t paths e p q a asked table f s made = made ∙ (λ i. scanned_by t paths e (f i) (s i)) ∙ built_in t paths e asked table

-- ---- a scan by proofs that are made with rules

pub found_with : (t : Table) (rules : List Rule) (paths : List Names) (e : Expression) (p q : Option Expression) (a : ScanAnswer) →
    fals t.kind rules e ≡ answer_of p → sat t.kind rules e ≡ answer_of q → a ≡ scanned_by t paths e p q → scanned_with t rules paths e ≡ Some a
found_with t rules paths e p q a f s made = (λ i. by_answers t paths e (f i) (s i)) ∙ as_proofs t paths e p q ∙ ap Some (sym made)

pub none_at_fault : (k : LogicalType) (rules : List Rule) (e : Expression) (p q : Option Expression) → fals k rules e ≡ answer_of p → sat k rules e ≡ answer_of q → have_fault k rules e ≡ false
none_at_fault k rules e p q f s = λ i. (ap is_fault f ∙ no_fault p) i || (ap is_fault s ∙ no_fault q) i
