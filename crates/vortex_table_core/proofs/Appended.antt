-- Why rows and arrays are not appended, and what an append leaves.
use Rattle.std.proofs.Common.{◌≡◌, ◌≤◌, ◌<◌, ◌+◌, ◌^◌, ◌++◌, ◌∷◌, [], ℕ, suc, true, refl, sym, ap, subst, ◌∙◌, List, length, map, Option, Some, None, inl, inr, if◌then◌else◌, arith}
use Rattle.std.specs.List.{All}
use Rattle.std.specs.Prelude.{Result, Ok, Err, IsErrAnd, IsErrOf}
use Rattle.std.proofs.lemmas.List.{length-map}
use Rattle.vortex_model.specs.LogicalType.{LogicalType}
use Rattle.vortex_model.specs.Content.{Content, content_of, Raw}
use Rattle.vortex_model.specs.Refusal.{Refusal, or_else, invalid_value}
use Rattle.vortex_model.specs.Valid.{valid}
use Rattle.vortex_scalar_value.specs.View.{raw_in}
use Rattle.vortex_scalar_value.specs.declared.scalar_value.ScalarValue.{ScalarValue}
use Rattle.vortex_model.specs.Kept.{type_fault}
use Rattle.vortex_model_table.specs.Table as model
use Rattle.vortex_model_table.specs.Reply.{RowsPass}
use Rattle.vortex_model_table.specs.Command.{append, append_array, refusal, after, appended, first_invalid, first_unconvertible}
use Rattle.vortex_arrays_model.specs.Layout.{Layout, len_of, rows_of}
use Rattle.vortex_arrays_model.proofs.RowsLemmas.{row_count}
use Rattle.vortex_table_schema.specs.Error.{Explains}
use Rattle.vortex_table_schema.specs.declared.error.TableError.{TableError}
use Rattle.vortex_table_schema.specs.declared.error.TableError.TheVariants as error
use Rattle.vortex_table_schema.proofs.Explained.{explained_first, explained_second, explained_two, none_both}
use Rattle.vortex_table_layout.specs.TooLarge.{AreTooLarge}
use Rattle.vortex_table_layout.proofs.HintLemmas.{unhinted}
use Rattle.vortex_table_layout.proofs.ConvertedRows.{explained_more}
use Rattle.vortex_table_core.specs.Arrays.{AddsArray, IsTakenAs, IsTakenBy}
use Rattle.vortex_table_core.specs.Totals.{PassesTotal}

-- what explains an error beside no refusal explains it beside any that is none
pub explains_more : (P Q : Type 0) (o : Option Refusal) (e : TableError) → (P → Q) → o ≡ None → Explains P None e → Explains Q o e
explains_more P Q o error.Memory f n h = tt
explains_more P Q o error.Total f n h = f h
explains_more P Q o error.RuleFault f n h = absurd h
explains_more P Q o e f n h = n ∙ h

module _ (t : model.Table) (s : LogicalType) (vs : List Raw) where
  abbrev pub why : TableError → Type 0
  why e = Explains (PassesTotal (Some t) (append s vs)) (refusal t (append s vs)) e

  pub all_accepted : type_fault s ≡ None → first_invalid 0 s vs ≡ None → first_unconvertible 0 s t.kind (map content_of vs) ≡ None → refusal t (append s vs) ≡ None
  all_accepted f g h = none_both (type_fault s) (or_else (first_invalid 0 s vs) (first_unconvertible 0 s t.kind (map content_of vs))) f (none_both (first_invalid 0 s vs) (first_unconvertible 0 s t.kind (map content_of vs)) g h)

  pub batch_refused : (e : TableError) → Explains ⊥ (or_else (type_fault s) (first_invalid 0 s vs)) e → why e
  batch_refused e h = explained_two (PassesTotal (Some t) (append s vs)) (type_fault s) (first_invalid 0 s vs) (first_unconvertible 0 s t.kind (map content_of vs)) e h

  pub rows_refused : (e : TableError) → type_fault s ≡ None → first_invalid 0 s vs ≡ None → Explains ⊥ (first_unconvertible 0 s t.kind (map content_of vs)) e → why e
  rows_refused e f g h =
      explained_second (PassesTotal (Some t) (append s vs)) (type_fault s) (or_else (first_invalid 0 s vs) (first_unconvertible 0 s t.kind (map content_of vs))) e f
      (explained_second (PassesTotal (Some t) (append s vs)) (first_invalid 0 s vs) (first_unconvertible 0 s t.kind (map content_of vs)) e g
      (explained_more ⊥ (PassesTotal (Some t) (append s vs)) (first_unconvertible 0 s t.kind (map content_of vs)) e (λ x. absurd x) h))

  pub layout_refused : (e : TableError) (rows : List Content) → refusal t (append s vs) ≡ None → rows ≡ map content_of vs → Explains (AreTooLarge t.kind rows) None e → why e
  layout_refused e rows accepted same h = explains_more (AreTooLarge t.kind rows) (PassesTotal (Some t) (append s vs)) (refusal t (append s vs)) e (λ x. inr (subst (AreTooLarge t.kind) same x)) accepted h

  many : (a : Layout) → rows_of a ≡ map content_of vs → len_of a ≡ length vs
  many a same = sym (row_count a) ∙ ap length same ∙ length-map vs content_of

  pub push_refused : (e : TableError) (a : Layout) → refusal t (append s vs) ≡ None → rows_of a ≡ map content_of vs → Explains (2 ^ 64 ≤ length (model.rows_of t) + len_of a) None e → why e
  push_refused e a accepted same h =
      explains_more (2 ^ 64 ≤ length (model.rows_of t) + len_of a) (PassesTotal (Some t) (append s vs)) (refusal t (append s vs)) e
      (λ x. inl (subst (λ n. 2 ^ 64 ≤ length (model.rows_of t) + n) (many a same) x)) accepted h

  pub left_after : (new : model.Table) (a : Layout) → rows_of a ≡ map content_of vs → new ≡ appended t (rows_of a) → new ≡ after t (append s vs)
  left_after new a same h = h ∙ ap (appended t) same

-- ---- appends of an array

module _ (t : model.Table) (s : LogicalType) (rows : List Content) where
  abbrev pub why_array : TableError → Type 0
  why_array e = Explains (PassesTotal (Some t) (append_array s rows)) (refusal t (append_array s rows)) e

  pub array_accepted : type_fault s ≡ None → first_unconvertible 0 s t.kind rows ≡ None → refusal t (append_array s rows) ≡ None
  array_accepted f h = none_both (type_fault s) (first_unconvertible 0 s t.kind rows) f h

  pub type_refused : (e : TableError) → Explains ⊥ (type_fault s) e → why_array e
  type_refused e h = explained_first (PassesTotal (Some t) (append_array s rows)) (type_fault s) (first_unconvertible 0 s t.kind rows) e h

  pub take_refused : (e : TableError) → type_fault s ≡ None → Explains (AreTooLarge t.kind rows) (first_unconvertible 0 s t.kind rows) e → why_array e
  take_refused e f h =
      explained_second (PassesTotal (Some t) (append_array s rows)) (type_fault s) (first_unconvertible 0 s t.kind rows) e f
      (explained_more (AreTooLarge t.kind rows) (PassesTotal (Some t) (append_array s rows)) (first_unconvertible 0 s t.kind rows) e (λ x. inr x) h)

  pub push_array_refused : (e : TableError) (a : Layout) → refusal t (append_array s rows) ≡ None → rows_of a ≡ rows → Explains (2 ^ 64 ≤ length (model.rows_of t) + len_of a) None e → why_array e
  push_array_refused e a accepted same h =
      explains_more (2 ^ 64 ≤ length (model.rows_of t) + len_of a) (PassesTotal (Some t) (append_array s rows)) (refusal t (append_array s rows)) e
      (λ x. inl (subst (λ n. 2 ^ 64 ≤ length (model.rows_of t) + n) (sym (row_count a) ∙ ap length same) x)) accepted h

  pub left_after_array : (new : model.Table) (a : Layout) → rows_of a ≡ rows → new ≡ appended t (rows_of a) → new ≡ after t (append_array s rows)
  left_after_array new a same h = h ∙ ap (appended t) same

-- ---- rows that are there are one chunk more

pub appended_some : (t : model.Table) (rows : List Content) → 0 < length rows → appended t rows ≡ record t { chunks = t.chunks ++ rows ∷ []; groups = t.groups ++ 1 ∷ [] }
appended_some t [] l = absurd (omega arith)
appended_some t (row ∷ rows) l = refl

-- values that are all valid have none that is not
pub none_invalid : (n : ℕ) (k : LogicalType) (vs : List (Option ScalarValue)) → All (λ row. valid k (raw_in row) ≡ true) vs → first_invalid n k (map raw_in vs) ≡ None
none_invalid n k [] h = refl
none_invalid n k (v ∷ vs) h =
    ap (λ b. if b then first_invalid (suc n) k (map raw_in vs) else Some (invalid_value n)) (h 0 v (omega arith))
    ∙ none_invalid (suc n) k vs (λ i d l. h (suc i) d (omega (arith, l)))

pub adds_wider : (P Q : Layout → Type 0) (old new : List Layout) → ((a : Layout) → P a → Q a) → AddsArray P old new → AddsArray Q old new
adds_wider P Q old new f (inl e) = inl e
adds_wider P Q old new f (inr h) = inr (h.0, h.1, f h.0 h.2)

-- an array that is taken without hints is taken as it is where its layout is kept
pub taken_as : (k : LogicalType) (a b : Layout) → IsTakenBy k [] a b → IsTakenAs k a b
taken_as k a b t = record { kept = λ h. unhinted a b (t.kept h); plain = t.anew }

-- ---- when a total is passed

-- the error that `?` passes on is a total where the result is
pub total_of : {A : Type 0} (r : Result A TableError) (e : TableError) → IsErrAnd r (λ x. x ≡ e) → IsErrOf r error.Total → e ≡ error.Total
total_of (Ok a) e g is = absurd g
total_of (Err x) e g is = let same : x ≡ error.Total = cc (is) in sym g ∙ same

-- what a refusal explains is no total
pub no_total : {A : Type 0} (r : Result A TableError) (e : TableError) (o : Option Refusal) → IsErrAnd r (λ x. x ≡ e) → Explains ⊥ o e → IsErrOf r error.Total → ⊥
no_total r e o g h is = subst (Explains ⊥ o) (total_of r e g is) h

-- a chunk more is a total only where the rows can't be counted
pub rows_pass_only : {A : Type 0} (t : model.Table) (s : LogicalType) (rows : List Content) (r : Result A TableError) (e : TableError) (a : Layout) → rows_of a ≡ rows → IsErrAnd r (λ x. x ≡ e) →
    Explains (2 ^ 64 ≤ length (model.rows_of t) + len_of a) None e → IsErrOf r error.Total → RowsPass (Some t) (append_array s rows)
rows_pass_only t s rows r e a same g h is =
    subst (λ n. 2 ^ 64 ≤ length (model.rows_of t) + n) (sym (row_count a) ∙ ap length same)
    (subst (Explains (2 ^ 64 ≤ length (model.rows_of t) + len_of a) None) (total_of r e g is) h)
