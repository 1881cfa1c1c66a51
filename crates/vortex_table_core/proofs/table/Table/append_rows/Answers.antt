use Rattle.std.below.core.proofs.iter.Serving.{as_err}
use Rattle.std.proofs.Common.{◌≡◌, None, rules, subst, ap, ◌∙◌, map, arith}
use Rattle.std.specs.Cow.{cow_slice_items}
use Rattle.vortex_model.specs.Content.{content_of}
use Rattle.vortex_model.specs.Refusal.{or_else}
use Rattle.vortex_model.specs.Kept.{type_fault}
use Rattle.vortex_model_table.specs.Command.{append, refusal, first_invalid}
use Rattle.vortex_dtype_core.specs.View.{type_of}
use Rattle.vortex_scalar_value.specs.View.{raw_in}
use Rattle.vortex_arrays_model.specs.Layout.{rows_of}
use Rattle.vortex_table_schema.specs.Rows.{row_content}
use Rattle.vortex_table_schema.specs.Error.{Explains}
use Rattle.vortex_table_core.specs.TableView.{table_of}
use Rattle.vortex_table_schema.proofs.Explained.{none_so}
use Rattle.vortex_table_core.proofs.Appended.{batch_refused, push_refused, all_accepted, why}
use Rattle.vortex_table_core.proofs.table.Table.append_rows.Goals as goal

pub convert_rows-requires-clause-kept : goal.convert_rows-requires-clause-kept
convert_rows-requires-clause-kept c = none_so (type_fault (type_of c.args.self.now.dtype)) c.args.self.now.kept

pub returns-in_err-check_batch-clause-appends : goal.returns-in_err-check_batch-clause-appends
returns-in_err-check_batch-clause-appends c =
    let t = table_of c.args.self.now in
    let s = type_of c.args.batch_dtype.now in
    let vs = map raw_in (cow_slice_items c.args.values) in
    let e = c.in_err-check_batch.field-0.0 in
    let because : Explains ⊥ (or_else (type_fault s) (first_invalid 0 s vs)) e
    = subst (λ us. Explains ⊥ (or_else (type_fault s) (first_invalid 0 s (map raw_in us))) e) c.as_slice.ensures.value c.in_err-check_batch.ensures.refused in
    let refused : why t s vs e = batch_refused t s vs e because in
    let gives = c.from_residual.ensures.1 in
    record {
      appended = grind (arith, (as_err c.from_residual.ensures.0).1);
      accepted = grind (arith, (as_err c.from_residual.ensures.0).1);
      refused = search (rules, refused, gives);
      total = grind (arith, (as_err c.from_residual.ensures.0).1);
      unchanged = grind (arith, (as_err c.from_residual.ensures.0).1);
    }

pub returns-in_err-push_array-clause-appends : goal.returns-in_err-push_array-clause-appends
returns-in_err-push_array-clause-appends c =
    let t = table_of c.args.self.now in
    let s = type_of c.args.batch_dtype.now in
    let vs = map raw_in (cow_slice_items c.args.values) in
    let e = c.in_err-push_array.field-0.0 in
    let valid : first_invalid 0 s vs ≡ None = subst (λ us. first_invalid 0 s (map raw_in us) ≡ None) c.as_slice.ensures.value c.in_ok-check_batch.ensures.valid in
    let accepted : refusal t (append s vs) ≡ None = all_accepted t s vs c.in_ok-check_batch.ensures.kept valid c.in_ok-rows.ensures.converts in
    let same : rows_of c.in_ok-array.array ≡ map content_of vs = c.in_ok-array.ensures.rows ∙ ap (map row_content) c.deref.ensures.value ∙ c.in_ok-rows.ensures.content in
    let refused : why t s vs e = push_refused t s vs e c.in_ok-array.array accepted same c.in_err-push_array.ensures.refused in
    let gives = c.from_residual-in_err-push_array.ensures.1 in
    record {
      appended = grind (arith, (as_err c.from_residual-in_err-push_array.ensures.0).1);
      accepted = grind (arith, (as_err c.from_residual-in_err-push_array.ensures.0).1);
      refused = search (rules, refused, gives);
      total = λ h. accepted;
      unchanged = grind (arith, (as_err c.from_residual-in_err-push_array.ensures.0).1);
    }
