use Rattle.std.below.core.proofs.iter.Serving.{as_err}
use Rattle.std.proofs.Common.{◌≡◌, None, rules, subst, sym, arith}
use Rattle.vortex_model.specs.Kept.{type_fault}
use Rattle.vortex_table_schema.specs.declared.error.TableError.TheVariants as error
use Rattle.vortex_model_table.specs.Command.{append_array, refusal}
use Rattle.vortex_dtype_core.specs.View.{type_of}
use Rattle.vortex_arrays_model.specs.Layout.{array_type_of, rows_of}
use Rattle.vortex_table_core.specs.Arrays.{arrays_of, IsTakenBy}
use Rattle.vortex_table_core.specs.TableView.{table_of}
use Rattle.vortex_table_core.proofs.Appended.{total_of, no_total, rows_pass_only, take_refused, push_array_refused, array_accepted, why_array, adds_wider}
use Rattle.vortex_table_core.proofs.table.Table.append_hinted.Goals as goal

pub returns-in_err-taken-clause-appends : goal.returns-in_err-taken-clause-appends
returns-in_err-taken-clause-appends c =
    let t = table_of c.args.self.now in let s = array_type_of c.args.array in let rows = rows_of c.args.array in
    let e = c.in_err-taken.field-0.0 in
    let kept : type_fault s ≡ None = subst (λ x. type_fault x ≡ None) c.dtype.ensures c.in_ok-check_type.ensures.ok in
    let refused : why_array t s rows e = take_refused t s rows e kept c.in_err-taken.ensures.refused in
    let accepted = array_accepted t s rows kept in
    let gives = c.from_residual-in_err-taken.ensures.1 in
    let last = c.in_err-taken.ensures.total in
    record {
      appended = grind (arith, (as_err c.from_residual-in_err-taken.ensures.0).1);
      accepted = grind (arith, (as_err c.from_residual-in_err-taken.ensures.0).1);
      refused = search (rules, refused, gives);
      total = search (rules, accepted, last, gives, c.in_err-taken.was);
      unchanged = grind (arith, (as_err c.from_residual-in_err-taken.ensures.0).1);
    }

pub returns-in_err-push_array-clause-appends : goal.returns-in_err-push_array-clause-appends
returns-in_err-push_array-clause-appends c =
    let t = table_of c.args.self.now in let s = array_type_of c.args.array in let rows = rows_of c.args.array in
    let e = c.in_err-push_array.field-0.0 in
    let kept : type_fault s ≡ None = subst (λ x. type_fault x ≡ None) c.dtype.ensures c.in_ok-check_type.ensures.ok in
    let accepted : refusal t (append_array s rows) ≡ None = array_accepted t s rows kept c.in_ok-taken.ensures.converts in
    let refused : why_array t s rows e = push_array_refused t s rows e c.in_ok-taken.taken accepted c.in_ok-taken.ensures.rows c.in_err-push_array.ensures.refused in
    let gives = c.from_residual-in_err-push_array.ensures.1 in
    record {
      appended = grind (arith, (as_err c.from_residual-in_err-push_array.ensures.0).1);
      accepted = grind (arith, (as_err c.from_residual-in_err-push_array.ensures.0).1);
      refused = search (rules, refused, gives);
      total = λ h. accepted;
      unchanged = grind (arith, (as_err c.from_residual-in_err-push_array.ensures.0).1);
    }

pub returns-clause-layout : goal.returns-clause-layout
returns-clause-layout c =
    let k = type_of c.args.self.now.dtype in
    adds_wider (λ a. a ≡ c.in_ok-taken.taken) (IsTakenBy k c.args.layouts.now c.args.array) (arrays_of c.args.self.now) (arrays_of c.push_array.new.self)
    (λ a e. subst (IsTakenBy k c.args.layouts.now c.args.array) (sym e) c.in_ok-taken.ensures.layout) c.in_ok-push_array.ensures.array

pub returns-in_err-check_type-clause-kept : goal.returns-in_err-check_type-clause-kept
returns-in_err-check_type-clause-kept c = λ h is.
    absurd (no_total _ c.in_err-check_type.field-0.0 (type_fault (type_of c.dtype.result.now)) c.from_residual.ensures.1 c.in_err-check_type.ensures.refused is)

pub returns-in_err-taken-clause-kept : goal.returns-in_err-taken-clause-kept
returns-in_err-taken-clause-kept c = λ h is.
    let same : c.in_err-taken.field-0.0 ≡ error.Total = total_of _ c.in_err-taken.field-0.0 c.from_residual-in_err-taken.ensures.1 is in
    absurd (c.in_err-taken.ensures.kept h (cc (same)))

pub returns-in_err-push_array-clause-kept : goal.returns-in_err-push_array-clause-kept
returns-in_err-push_array-clause-kept c = λ h is.
    rows_pass_only (table_of c.args.self.now) (array_type_of c.args.array) (rows_of c.args.array) _ c.in_err-push_array.field-0.0 c.in_ok-taken.taken c.in_ok-taken.ensures.rows
    c.from_residual-in_err-push_array.ensures.1 c.in_err-push_array.ensures.refused is
