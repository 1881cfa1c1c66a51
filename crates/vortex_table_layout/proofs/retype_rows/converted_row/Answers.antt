use Rattle.std.proofs.Common.{◌+◌, rules}
use Rattle.vortex_model.specs.Convert.{converts}
use Rattle.vortex_model.specs.Refusal.{not_convertible}
use Rattle.vortex_model_table.specs.Command.{unless}
use Rattle.vortex_arrays_model.specs.Layout.{array_type_of, content_at}
use Rattle.vortex_dtype_core.specs.View.{type_of}
use Rattle.vortex_table_schema.specs.Error.{Explains}
use Rattle.vortex_table_layout.proofs.retype_rows.converted_row.Goals as goal

pub returns-in_err-row-clause-refused : goal.returns-in_err-row-clause-refused
returns-in_err-row-clause-refused c =
    let a = c.args.array.now in
    let fault = unless (converts (array_type_of a) (type_of c.args.target.now) (content_at a c.args.index)) (not_convertible (c.args.first + c.args.index)) in
    let why : Explains ⊥ fault c.in_err-row.field-0.0 = c.in_err-row.ensures.refused fault in
    let gives = c.from_residual.ensures.1 in
    search (rules, why, gives)
