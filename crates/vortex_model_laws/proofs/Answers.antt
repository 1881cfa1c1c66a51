-- WHERE true, WHERE false, and the root path.
use Rattle.std.proofs.Common.{◌≡◌, refl, ◌∙◌, ap, List, [], ◌∷◌, ◌++◌, map, ℕ, Bool, true, false, if◌then◌else◌}
use Rattle.std.specs.Prelude.{filter}
use Rattle.std.specs.List.{AllByRecursion}
use Rattle.vortex_model.specs.LogicalType.{LogicalType, struct, Fields, no_fields, field, stored}
use Rattle.vortex_model.specs.Content.{Content, null, tuple, Contents, nothing, first}
use Rattle.vortex_model.specs.Valid.{IsContent, Holds, FieldsHold}
use Rattle.vortex_model.specs.Path.{Names}
use Rattle.vortex_model_table.specs.Truth.{selects}
use Rattle.vortex_model_table.specs.Cut.{is_kept, cut_type, cut_kind, cut_fields, cut_row, cut_content, cut_contents}
use Rattle.vortex_model_table.specs.Table.{Table, IsTable, rows_of, answer}
use Rattle.vortex_model_table.specs.Expression.{Expression}
use Rattle.vortex_model_table.specs.Laws.{truth_value}
use Rattle.vortex_model_laws.proofs.Steps.{flat}

all_selected : (k : LogicalType) (rows : List Content) → filter (selects k (truth_value true)) rows ≡ rows
all_selected k [] = refl
all_selected k (row ∷ rows) = ap (λ ys. row ∷ ys) (all_selected k rows)

none_selected : (k : LogicalType) (rows : List Content) → filter (selects k (truth_value false)) rows ≡ []
none_selected k [] = refl
none_selected k (row ∷ rows) = none_selected k rows

pub true_answers : (t : Table) (paths : List Names) → answer t paths (truth_value true) ≡ map (cut_row paths t.kind) (rows_of t)
true_answers t paths = ap (λ rows. map (cut_row paths t.kind) rows) (all_selected t.kind (rows_of t))

pub false_answers : (t : Table) (paths : List Names) → answer t paths (truth_value false) ≡ []
false_answers t paths = ap (λ rows. map (cut_row paths t.kind) rows) (none_selected t.kind (rows_of t))

-- the paths keep all below `here`, so nothing is cut there
abbrev pub KeepAll : List Names → Type 0
KeepAll paths = (here : Names) → is_kept paths here ≡ true

mutual
  pub uncut : (paths : List Names) → KeepAll paths → (here : Names) (k : LogicalType) (c : Content) → Holds (stored k) c → cut_content paths here k c ≡ c
  uncut paths all here (struct fs n) (tuple cs) h = ap (λ ds. tuple ds) (all_uncut paths all here fs cs h)
  uncut paths all here k c h = refl

  all_uncut : (paths : List Names) → KeepAll paths → (here : Names) (fs : Fields) (cs : Contents) → FieldsHold fs cs → cut_contents paths here fs cs ≡ cs
  all_uncut paths all here no_fields nothing h = refl
  all_uncut paths all here (field x k fs) (first c cs) h =
      ap (λ b. if b then first (cut_content paths (here ++ x ∷ []) k c) (cut_contents paths here fs cs) else cut_contents paths here fs cs) (all (here ++ x ∷ []))
      ∙ ap (λ d. first d (cut_contents paths here fs cs)) (uncut paths all (here ++ x ∷ []) k c h.0) ∙ ap (λ ds. first c ds) (all_uncut paths all here fs cs h.1)
  all_uncut paths all here fs cs h = absurd h

mutual
  pub uncut_kind : (paths : List Names) → KeepAll paths → (here : Names) (k : LogicalType) → cut_kind paths here k ≡ k
  uncut_kind paths all here (struct fs n) = ap (λ gs. struct gs n) (all_uncut_kinds paths all here fs)
  uncut_kind paths all here k = refl

  all_uncut_kinds : (paths : List Names) → KeepAll paths → (here : Names) (fs : Fields) → cut_fields paths here fs ≡ fs
  all_uncut_kinds paths all here no_fields = refl
  all_uncut_kinds paths all here (field x k fs) =
      ap (λ b. if b then field x (cut_kind paths (here ++ x ∷ []) k) (cut_fields paths here fs) else cut_fields paths here fs) (all (here ++ x ∷ []))
      ∙ ap (λ l. field x l (cut_fields paths here fs)) (uncut_kind paths all (here ++ x ∷ []) k) ∙ ap (λ gs. field x k gs) (all_uncut_kinds paths all here fs)

-- the root path keeps all
pub root_keeps : KeepAll ([] ∷ [])
root_keeps here = refl

-- ---- the type of an answer

kept_field : (b : Bool) (x : List ℕ) (k : LogicalType) (fs : Fields) (c : Content) (cs : Contents) → Holds (stored k) c → FieldsHold fs cs →
    FieldsHold (if b then field x k fs else fs) (if b then first c cs else cs)
kept_field true x k fs c cs h g = (h, g)
kept_field false x k fs c cs h g = g

mutual
  pub cut_held : (paths : List Names) (here : Names) (k : LogicalType) (c : Content) → Holds (stored k) c → Holds (stored (cut_kind paths here k)) (cut_content paths here k c)
  cut_held paths here (struct fs n) null h = h
  cut_held paths here (struct fs n) (tuple cs) h = fields_cut paths here fs cs h
  cut_held paths here (struct fs n) c h = absurd h
  cut_held paths here k c h = h

  fields_cut : (paths : List Names) (here : Names) (fs : Fields) (cs : Contents) → FieldsHold fs cs → FieldsHold (cut_fields paths here fs) (cut_contents paths here fs cs)
  fields_cut paths here no_fields nothing h = tt
  fields_cut paths here (field x k fs) (first c cs) h =
      kept_field (is_kept paths (here ++ x ∷ [])) x _ _ _ _ (cut_held paths (here ++ x ∷ []) k c h.0) (fields_cut paths here fs cs h.1)
  fields_cut paths here fs cs h = absurd h

kept_row : (P : Content → Type 0) (b : Bool) (row : Content) (rows : List Content) → P row → AllByRecursion P rows → AllByRecursion P (if b then row ∷ rows else rows)
kept_row P true row rows h g = (h, g)
kept_row P false row rows h g = g

filter_all : (P : Content → Type 0) (p : Content → Bool) (rows : List Content) → AllByRecursion P rows → AllByRecursion P (filter p rows)
filter_all P p [] h = tt
filter_all P p (row ∷ rows) h = kept_row P (p row) row (filter p rows) h.0 (filter_all P p rows h.1)

cut_all : (paths : List Names) (k : LogicalType) (rows : List Content) → AllByRecursion (IsContent k) rows → AllByRecursion (IsContent (cut_type paths k)) (map (cut_row paths k) rows)
cut_all paths k [] h = tt
cut_all paths k (row ∷ rows) h = (cut_held paths [] k row h.0, cut_all paths k rows h.1)

pub answers_held : (t : Table) (paths : List Names) (e : Expression) → IsTable t → AllByRecursion (IsContent (cut_type paths t.kind)) (answer t paths e)
answers_held t paths e h =
    cut_all paths t.kind (filter (selects t.kind e) (rows_of t)) (filter_all (IsContent t.kind) (selects t.kind e) (rows_of t) (flat t.kind t.chunks h.rows))
