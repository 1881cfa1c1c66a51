-- A table is scanned as its chunks would be alone, and those are the same in both tables.
use Rattle.std.proofs.Common.{◌≡◌, refl, sym, ◌∙◌, subst, ℕ, List, Some, None}
use Rattle.vortex_model.specs.Path.{Names}
use Rattle.vortex_model_table.specs.Expression.{Expression}
use Rattle.vortex_model_table.specs.Table.{Table, IsTable}
use Rattle.vortex_model_table.specs.Command.{join, refusal, after}
use Rattle.vortex_model_table.specs.Laws.{StepsKeepTables}
use Rattle.vortex_model_laws.specs.Regrouped.{AreScannedAlike}
use Rattle.vortex_model_laws.proofs.Alone.{as_each_alone}

pub alike : (t : Table) (sizes : List ℕ) (paths : List Names) (e : Expression) → IsTable t →
    IsTable (record t { groups = sizes }) → AreScannedAlike t (record t { groups = sizes }) paths e
alike t sizes paths e is other =
    let here = as_each_alone t e is in
    let there = as_each_alone (record t { groups = sizes }) e other in record {
      answers = refl;
      skipped = here.skipped ∙ sym there.skipped;
      whole = here.whole ∙ sym there.whole;
      tested = here.tested ∙ sym there.tested;
    }

pub joined_alike : StepsKeepTables → (t : Table) (i : ℕ) (paths : List Names) (e : Expression) →
    IsTable t → refusal t (join i) ≡ None → AreScannedAlike t (after t (join i)) paths e
joined_alike keep t i paths e is accepted =
    alike t (after t (join i)).groups paths e is
    (subst (λ o. IsTable (elim o [ None ↦ after t (join i) | Some r ↦ t ])) accepted
    (keep t (join i) tt is))
