use Rattle.std.proofs.Common.{◌≡◌, ◌∙◌, ap, subst, map, rules}
use Rattle.vortex_model_table.specs.Command.{first_unconvertible}
use Rattle.vortex_arrays_model.specs.Layout.{array_type_of, rows_of}
use Rattle.vortex_dtype_core.specs.View.{type_of}
use Rattle.vortex_table_schema.specs.Error.{Explains}
use Rattle.vortex_table_schema.specs.Rows.{row_content}
use Rattle.vortex_arrays_builder.specs.TooLarge.{AreTooLarge}
use Rattle.vortex_table_layout.proofs.ConvertedRows.{explained_more}
use Rattle.vortex_table_layout.proofs.retype_rows.convert_by_rows.Goals as goal

pub returns-in_err-rows-clause-refused : goal.returns-in_err-rows-clause-refused
returns-in_err-rows-clause-refused c =
    let a = c.args.array.now in let t = type_of c.args.target.now in let rows = rows_of a in let e = c.in_err-rows.field-0.0 in
    let why : Explains (AreTooLarge t rows) (first_unconvertible c.args.first (array_type_of a) t rows) e
    = explained_more ⊥ (AreTooLarge t rows) (first_unconvertible c.args.first (array_type_of a) t rows) e (λ x. absurd x) c.in_err-rows.ensures.refused in
    let gives = c.from_residual.ensures.1 in
    search (rules, why, gives)

pub returns-in_err-new-clause-refused : goal.returns-in_err-new-clause-refused
returns-in_err-new-clause-refused c =
    let a = c.args.array.now in let t = type_of c.args.target.now in let rows = rows_of a in let e = c.in_err-new.field-0.0 in
    let fault = first_unconvertible c.args.first (array_type_of a) t rows in
    let content : map row_content c.deref.result.now ≡ rows = ap (map row_content) c.deref.ensures.value ∙ c.in_ok-rows.ensures.content in
    let why : Explains (AreTooLarge t rows) fault e = subst (λ cs. Explains (AreTooLarge t cs) fault e) content (c.in_err-new.ensures.refused fault) in
    let gives = c.from_residual-in_err-new.ensures.1 in
    search (rules, why, gives)
