use Rattle.std.proofs.Common.{◌≡◌, ◌∙◌, ap, subst, map, rules}
use Rattle.vortex_dtype_core.specs.View.{type_of}
use Rattle.vortex_scalar_value.specs.View.{raw_in, content_in}
use Rattle.vortex_arrays_builder.specs.TooLarge.{AreTooLarge}
use Rattle.vortex_table_schema.specs.Error.{Explains}
use Rattle.vortex_table_schema.specs.Rows.{row_content}
use Rattle.vortex_table_layout.proofs.HintLemmas.{contents_in}
use Rattle.vortex_table_zones.specs.Build.{rows_fault}
use Rattle.vortex_table_zones.proofs.build.build_rows.Goals as goal

pub returns-in_err-array-clause-refused : goal.returns-in_err-array-clause-refused
returns-in_err-array-clause-refused c =
    let k = type_of c.args.dtype.now in let vs = c.args.rows.now in let fault = rows_fault k (map raw_in vs) in let e = c.in_err-array.field-0.0 in
    let same : map row_content c.deref.result.now ≡ map content_in vs = ap (map row_content) c.deref.ensures.value ∙ c.in_ok-rows.ensures.content ∙ contents_in vs in
    let why : Explains (AreTooLarge k (map content_in vs)) fault e = subst (λ cs. Explains (AreTooLarge k cs) fault e) same (c.in_err-array.ensures.refused fault) in
    let gives = c.from_residual-in_err-array.ensures.1 in
    search (rules, why, gives)
