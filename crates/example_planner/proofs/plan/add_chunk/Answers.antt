use Rattle.std.proofs.Common.{◌≡◌, subst, Some}
use Rattle.std.specs.Prelude.{IfErr, IsErrOf, OnOk}
use Rattle.vortex_model_table.specs.Command.{append_array, after, refusal}
use Rattle.vortex_model_table.specs.Reply.{RowsPass}
use Rattle.vortex_table_core.specs.Totals.{PassesTotal}
use Rattle.vortex_table_core.specs.TableView.{table_of}
use Rattle.vortex_table_schema.specs.Error.{Explains}
use Rattle.vortex_table_schema.specs.declared.error.TableError.TheVariants as error
use Rattle.vortex_table.specs.TableLayoutKept.{KeepsLayout}
use Rattle.vortex_dtype_core.specs.View.{type_of}
use Rattle.vortex_arrays_model.specs.Layout.{array_type_of, rows_of}
use Rattle.example_planner.proofs.Tables.{lent, next_chunk, chunk_added}
use Rattle.example_planner.proofs.Refused.{own_refused}
use Rattle.example_planner.proofs.plan.add_chunk.Goals as goal

pub returns-clause-added : goal.returns-clause-added
returns-clause-added c =
    chunk_added c.args.table.now c.args.part.now c.append_array.new.self c.args.index c.in-Some.array.now (array_type_of c.in-Some.array.now) c.append_array.result
    c.in-Some.ensures
    (subst (λ a. OnOk c.append_array.result (table_of c.append_array.new.self ≡ after (table_of c.args.part.now) (append_array (array_type_of a) (rows_of a)))) c.in_ok-rows-in-Some.ensures.cases
    c.append_array.ensures.appends.appended)

pub returns-clause-refused : goal.returns-clause-refused
returns-clause-refused c =
    let part = c.args.part.now in let array = c.in-Some.array.now in let same = c.in_ok-rows-in-Some.ensures.cases in
    own_refused c.args.table.now part c.args.index array c.in-Some.ensures c.requires.kind c.append_array.result
    (c.requires.room (rows_of array) (next_chunk c.args.table.now c.args.index array c.in-Some.ensures))
    (subst (λ a. IfErr c.append_array.result (Explains (PassesTotal (Some (table_of part)) (append_array (array_type_of a) (rows_of a))) (refusal (table_of part) (append_array (array_type_of a) (rows_of a))))) same
    c.append_array.ensures.appends.refused)
    (subst (λ a. KeepsLayout (type_of part.dtype) a → IsErrOf c.append_array.result error.Total → RowsPass (Some (table_of part)) (append_array (array_type_of a) (rows_of a))) same c.append_array.ensures.kept)

pub unreachable-requires : goal.unreachable-requires
unreachable-requires c = lent c.args.table.now c.args.index c.requires.index c.in-None.ensures
