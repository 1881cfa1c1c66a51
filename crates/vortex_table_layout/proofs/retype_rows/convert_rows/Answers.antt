use Rattle.std.proofs.Common.{◌+◌, ◌<◌, ◌≤◌, sym, ap, subst, ◌∙◌, length, rules, arith}
use Rattle.std.proofs.lemmas.List.{drop_all, take_all}
use Rattle.vortex_model.specs.Valid.{valid}
use Rattle.vortex_model_table.specs.Command.{first_unconvertible}
use Rattle.vortex_arrays_model.specs.Layout.{array_type_of, content_at, rows_of}
use Rattle.vortex_dtype_core.specs.View.{type_of}
use Rattle.vortex_scalar_value.specs.View.{raw_of}
use Rattle.vortex_table_schema.specs.Error.{Explains}
use Rattle.vortex_table_layout.proofs.ConvertedRows.{all_pushed, row_refused, row_passed, row_kept, row_within, row_is}
use Rattle.vortex_arrays_model.proofs.RowsLemmas.{row_count}
use Rattle.vortex_table_layout.proofs.retype_rows.convert_rows.Goals as goal

pub loop-index-preserved : goal.loop-index-preserved
loop-index-preserved c =
    let a = c.args.array.now in let s = array_type_of a in let t = type_of c.args.target.now in let i = c.loop-index.index in let rows = rows_of a in
    let row = content_at a i in let made = c.in_ok-row.ensures in let at = c.loop-index.invariant in
    let inside = subst (λ n. i < n) c.len-len.ensures.count c.loop-index-test.true in
    let here = row_within a i inside in let is = row_is a i inside in record {
      content = row_kept s t c.args.first rows i row here is c.loop-index.converted.items c.push.new.self.items c.in_ok-row.row c.in_ok-push.ensures.items at.content made.content;
      valid = all_pushed (λ r. valid t (raw_of r)) c.loop-index.converted.items c.push.new.self.items c.in_ok-row.row c.in_ok-push.ensures.items at.valid made.valid;
      left = row_passed s t c.args.first rows i row here is _ made.converts at.left;
    }

pub returns-in_err-row-clause-refused : goal.returns-in_err-row-clause-refused
returns-in_err-row-clause-refused c =
    let a = c.args.array.now in let s = array_type_of a in let t = type_of c.args.target.now in let rows = rows_of a in let i = c.loop-index.index in
    let inside = subst (λ n. i < n) c.len-len.ensures.count c.loop-index-test.true in
    let e = c.in_err-row.field-0.0 in let all = first_unconvertible c.args.first s t rows in
    let why : Explains ⊥ all e
    = row_refused s t c.args.first rows i (content_at a i) (row_within a i inside) (row_is a i inside) all e c.loop-index.invariant.left c.in_err-row.ensures.refused in
    let gives = c.from_residual-in_err-row.ensures.1 in
    search (rules, why, gives)

pub returns-clause-converts : goal.returns-clause-converts
returns-clause-converts c =
    let a = c.args.array.now in let i = c.loop-index.index in let many = row_count a in let len = c.len-len.ensures.count in
    let past : length (rows_of a) ≤ i = omega (arith, many, len, c.loop-index-test.false) in
    sym c.loop-index.invariant.left ∙ ap (first_unconvertible (c.args.first + i) (array_type_of a) (type_of c.args.target.now)) (drop_all i (rows_of a) past)

pub returns-clause-content : goal.returns-clause-content
returns-clause-content c =
    let a = c.args.array.now in let i = c.loop-index.index in let many = row_count a in let len = c.len-len.ensures.count in
    c.loop-index.invariant.content ∙ take_all i (rows_of a) (omega (arith, many, len, c.loop-index-test.false))
