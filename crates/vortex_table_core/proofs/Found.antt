-- What a scan takes of a chunk.
use Rattle.std.proofs.Common.{◌≡◌, sym, ◌∙◌, ap, subst, ℕ, zero, suc, ◌+◌, List, map, filter, true, IsTrue, All}
use Rattle.std.specs.List.{AllByRecursion, list_all, range_with_len}
use Rattle.std.specs.Cmp.{first_so, second_so}
use Rattle.vortex_model.specs.LogicalType.{LogicalType}
use Rattle.vortex_model.specs.Content.{Content}
use Rattle.vortex_model.specs.Path.{Names}
use Rattle.vortex_model_table.specs.Expression.{Expression}
use Rattle.vortex_model.specs.Valid.{valid}
use Rattle.vortex_model_table.specs.Table.{bound_length}
use Rattle.vortex_model_table.specs.Truth.{selects, is_true}
use Rattle.vortex_model_table.specs.Scan.{whole, tested}
use Rattle.vortex_arrays_model.specs.Layout.{Layout, len_of, array_type_of, content_at, rows_of}
use Rattle.vortex_arrays_core.specs.RawRows.{raw_row}
use Rattle.vortex_arrays_core.proofs.RawRowsLemmas.{says}
use Rattle.vortex_table_chunk.specs.Chunk.{chunk_rows}
use Rattle.vortex_table_chunk.specs.Rows.{are_rows_valid}
use Rattle.vortex_table_schema.specs.Cut.{content_cut, kept_by, raw_cut}
use Rattle.vortex_table_core.specs.Plan.{IsPlan, table_in, question_in}
use Rattle.vortex_table_core.specs.Progress.{Question, found_rows}
use Rattle.vortex_table_plan.specs.Prepared.{IsPreparedFor}
use Rattle.vortex_table_plan.specs.declared.plan.ScanPlan.{ScanPlan}
use Rattle.vortex_table_select.specs.Selected.{is_selected, cut_rows, selected_rows, AreOfType, CanBeCut}
use Rattle.vortex_table_select.specs.declared.selection.Selection.{Selection}
use Rattle.vortex_table_chunk.specs.Formed.{is_formed}
use Rattle.vortex_table_chunk.specs.declared.chunk.Chunk.{Chunk}
use Rattle.vortex_table_core.specs.declared.plan.Scan.{Scan}
use Rattle.vortex_table_schema.proofs.Cuts.{cut_is_valid, cut_is_kept}
use Rattle.vortex_table_chunk.proofs.Formed.{of_type}
use Rattle.vortex_table_plan.proofs.BoundValues.{bound_says}
use Rattle.vortex_table_core.proofs.Rows.{IsCut, kept_each, kept_all}

-- what paths ask for of the rows of an array whose rows are values of its type
module _ (k : LogicalType) (paths : List Names) (a : Layout) (same : array_type_of a ≡ k) where
  row_cut : (i : ℕ) → valid (array_type_of a) (raw_row a i) ≡ true → IsCut k paths (content_at a i)
  row_cut i h = subst (IsCut k paths) (says a i) (cut_is_kept paths k (raw_row a i) (ap (λ t. valid t (raw_row a i)) (sym same) ∙ h))

  each_cut : (from n : ℕ) → list_all (λ i. valid (array_type_of a) (raw_row a i)) (range_with_len from n) ≡ true → AllByRecursion (IsCut k paths) (map (content_at a) (range_with_len from n))
  each_cut from zero h = tt
  each_cut from (suc n) h =
      let behind = list_all (λ i. valid (array_type_of a) (raw_row a i)) (range_with_len (from + 1) n) in
      (row_cut from (first_so (valid (array_type_of a) (raw_row a from)) behind h), each_cut (from + 1) n (second_so (valid (array_type_of a) (raw_row a from)) behind h))

  pub rows_cut : are_rows_valid a ≡ true → AllByRecursion (IsCut k paths) (rows_of a)
  rows_cut h = each_cut 0 (len_of a) h

-- the rows of a table can be cut as its scans ask
pub can_be_cut : (k : LogicalType) (paths : List Names) (e : Expression) (prepared : ScanPlan) → IsPreparedFor k paths e prepared → (selections : List Selection) → AreOfType k selections →
    All (λ s. CanBeCut prepared.cut (array_type_of s.array)) selections
can_be_cut k paths e prepared is selections typed i d l r h =
    (λ j. valid (is.cut_kind j) (raw_cut (is.cut_values j) r))
    ∙ cut_is_valid paths k r (ap (λ t. valid t r) (sym (typed i d l)) ∙ h)

module _ (plan : Scan) (is : IsPlan plan) (chunk : Chunk) (formed : IsTrue (is_formed (bound_length (table_in plan)) (table_in plan).kind chunk)) where
  abbrev k : LogicalType
  k = (table_in plan).kind

  abbrev paths : List Names
  paths = (question_in plan).paths

  abbrev q : Question
  q = question_in plan

  pub same_type : array_type_of chunk.array ≡ k
  same_type = of_type (bound_length (table_in plan)) k chunk formed

  all_cut : AllByRecursion (IsCut k paths) (chunk_rows chunk)
  all_cut = rows_cut k paths chunk.array same_type chunk.typed

  pub all_found : cut_rows plan.prepared.now.cut (chunk_rows chunk) ≡ found_rows q whole (chunk_rows chunk)
  all_found = ap (λ t. map (content_cut t) (chunk_rows chunk)) is.prepared.cut_values ∙ kept_all k paths (chunk_rows chunk) all_cut

  eq_test : (row : Content) → is_selected plan.prepared.now.bound row ≡ selects k q.predicate row
  eq_test row = ap is_true (bound_says k q.predicate plan.prepared.now.bound is.prepared.bound row)

  pub some_found : cut_rows plan.prepared.now.cut (selected_rows plan.prepared.now.bound (chunk_rows chunk)) ≡ found_rows q tested (chunk_rows chunk)
  some_found =
      ap (λ t. map (content_cut t) (selected_rows plan.prepared.now.bound (chunk_rows chunk))) is.prepared.cut_values
      ∙ (λ j. map (content_cut (kept_by paths k)) (filter (λ row. eq_test row j) (chunk_rows chunk)))
      ∙ kept_each k paths (selects k q.predicate) (chunk_rows chunk) all_cut
