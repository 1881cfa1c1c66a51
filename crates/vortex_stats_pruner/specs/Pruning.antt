-- Which zones of a table of zones a predicate's proofs say to skip, and to take whole.
use Rattle.std.specs.Prelude.{◌≡◌, ◌⊎◌, ℕ, List, Option, Some, None, Bool, true, false, IfSome, slice_index_or}
use Rattle.std.specs.List.{AllByRecursion}
use Rattle.vortex_model.specs.LogicalType.{LogicalType}
use Rattle.vortex_model.specs.Content.{Content, null}
use Rattle.vortex_model_table.specs.Expression.{Expression}
use Rattle.vortex_model_table.specs.Truth.{is_true, selects}
use Rattle.vortex_model_rules.specs.Rules.{Rule, fals, sat}
use Rattle.vortex_stats_bind.specs.Bound.{Bound, bound_value, in_row}
use Rattle.vortex_stats_bind.specs.Replaced.{Answers, replaced}
use Rattle.vortex_stats_expr.specs.declared.error.StatsError.{StatsError}
use Rattle.vortex_stats_evaluate.specs.Readers.{IsZone, SelectsNone, SelectsEach}
use Rattle.vortex_stats_evaluate.specs.Refusals.{IsRewriteFault}

-- ---- proofs

-- Whatever binder answers the statistics, where the first proof is true of a zone, none of its rows
-- is selected, and where the second is, each.
pub record AreSound (k : LogicalType) (e : Expression) (falsifier satisfier : Option Bound)
    : Type 0 where
  pub none : IfSome falsifier (λ f. (answers : Answers) → SelectsNone k answers e (replaced answers f))
  pub each : IfSome satisfier (λ s. (answers : Answers) → SelectsEach k answers e (replaced answers s))

-- ---- masks

-- whether the proof, bound so, is true at this row of a table of zones; none is nowhere
abbrev pub is_proved : Answers → Option Bound → Content → Bool
is_proved answers None zone = false
is_proved answers (Some proof) zone = is_true (bound_value (replaced answers proof) zone)

-- Of the rows of each zone that the mask has, and of which its row in the table is honest, the
-- predicate selects none.
abbrev pub MarksUnselected : LogicalType → Expression → Answers → List Content → List Bool → Type 0
MarksUnselected k e answers zones mask = (i : ℕ) (rows : List Content) →
    slice_index_or mask i false ≡ true →
    IsZone k answers (in_row (slice_index_or zones i null)) rows →
    AllByRecursion (λ row. selects k e row ≡ false) rows

-- Of the rows of each zone that the mask has, and of which its row in the table is honest, the
-- predicate selects each.
abbrev pub MarksSelected : LogicalType → Expression → Answers → List Content → List Bool → Type 0
MarksSelected k e answers zones mask = (i : ℕ) (rows : List Content) →
    slice_index_or mask i false ≡ true →
    IsZone k answers (in_row (slice_index_or zones i null)) rows →
    AllByRecursion (λ row. selects k e row ≡ true) rows

-- ---- refusals

-- it can't be bound, it has no truth, or memory ran out or one of its answers is refused
abbrev pub IsPrunerFault : LogicalType → List Rule → Expression → StatsError → Type 0
IsPrunerFault k rules e r =
    IsRewriteFault k e (fals k rules e) r ⊎ IsRewriteFault k e (sat k rules e) r
