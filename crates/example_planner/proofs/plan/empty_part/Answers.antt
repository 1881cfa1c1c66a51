use Rattle.std.proofs.Common.{◌≡◌, [], None, refl, sym, ◌∙◌, subst, rules}
use Rattle.vortex_model.specs.Kept.{type_fault}
use Rattle.vortex_model_table.specs.Command.{create_fault}
use Rattle.vortex_dtype_core.specs.View.{type_of}
use Rattle.vortex_table_schema.specs.declared.error.TableError.TheVariants as error
use Rattle.vortex_table_schema.proofs.Explained.{none_both}
use Rattle.vortex_table_core.specs.TableView.{table_of}
use Rattle.vortex_table_core.proofs.Tables.{is_table}
use Rattle.example_planner.proofs.Refused.{memory_alone}
use Rattle.example_planner.proofs.plan.empty_part.Goals as goal

pub returns-in_err-part-clause-refused : goal.returns-in_err-part-clause-refused
returns-in_err-part-clause-refused c =
    let t = c.args.table.now in let k = type_of c.in_ok-dtype.dtype in let e = c.in_err-part.field-0.0 in
    let same : k ≡ (table_of t).kind = c.in_ok-dtype.ensures.cases ∙ c.dtype.ensures in
    let holds : type_fault k ≡ None = subst (λ s. type_fault s ≡ None) (sym same) (is_table t).holds in
    let refused : e ≡ error.Memory = memory_alone (create_fault k []) e (none_both (type_fault k) None holds refl) c.in_err-part.ensures.refused in
    let gives = c.from_residual-in_err-part.ensures.1 in
    search (rules, refused, gives)
