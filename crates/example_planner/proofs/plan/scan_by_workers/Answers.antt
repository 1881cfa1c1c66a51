use Rattle.std.proofs.Common.{◌∙◌, ap, sym, subst, List, map, flat_map, length, arith, rules}
use Rattle.std.proofs.lemmas.List.{length-map}
use Rattle.vortex_model_table.specs.Command.{names_of, refusal, scan}
use Rattle.vortex_dtype_path.specs.View.{steps_of}
use Rattle.vortex_model_table.specs.Table.{answer}
use Rattle.vortex_table_schema.specs.Error.{Explains}
use Rattle.vortex_table_layout.proofs.ConvertedRows.{explained_more}
use Rattle.vortex_table_core.specs.Arrays.{arrays_of}
use Rattle.vortex_table_core.specs.TableView.{table_of}
use Rattle.vortex_table_core.specs.declared.table.Table.{Table}
use Rattle.vortex_table_core.proofs.Tables.{is_table}
use Rattle.example_planner.specs.Split.{first_refusal, HasTooLarge}
use Rattle.example_planner.proofs.Refused.{explains_any, accepted_as_whole, refused_as_whole}
use Rattle.example_planner.proofs.Selected.{parts_are_whole}
use Rattle.example_planner.proofs.plan.scan_by_workers.Goals as goal

pub returns-clause-accepted : goal.returns-clause-accepted
returns-clause-accepted c =
    let steps = map steps_of c.args.paths.now in let e = c.args.predicate.now in let are = c.in_ok-parts.ensures.shared in
    accepted_as_whole (table_of c.args.table.now) steps e (map table_of c.in_ok-parts.parts.items) are.kinds are.some
    (sym (ap (λ (parts : List Table). first_refusal (scan steps e) (map table_of parts)) c.deref.ensures.value) ∙ c.in_ok-rows.ensures.accepted)

pub returns-clause-theorem : goal.returns-clause-theorem
returns-clause-theorem c = λ skipped.
    let steps = map steps_of c.args.paths.now in let e = c.args.predicate.now in let are = c.in_ok-parts.ensures.shared in let parts = c.in_ok-parts.parts.items in
    let accepted = accepted_as_whole (table_of c.args.table.now) steps e (map table_of parts) are.kinds are.some
    (sym (ap (λ (ps : List Table). first_refusal (scan steps e) (map table_of ps)) c.deref.ensures.value) ∙ c.in_ok-rows.ensures.accepted) in
    let some = are.some in let count = length-map parts table_of in let held = ap length c.deref.ensures.value in
    let formed = c.in_ok-rows.ensures.formed (omega (arith, some, count, held)) in
    c.in_ok-rows.ensures.rows
    ∙ ap (λ (ps : List Table). flat_map (λ part. answer part (map names_of steps) e) (map table_of ps)) c.deref.ensures.value
    ∙ parts_are_whole (table_of c.args.table.now) c.args.left_out.now c.args.workers (map table_of parts) steps (map names_of steps) e
    c.groups_change_nothing.ensures c.skipped_chunks_hold_none.ensures (is_table c.args.table.now) accepted formed skipped are

pub returns-in_err-parts-clause-refused : goal.returns-in_err-parts-clause-refused
returns-in_err-parts-clause-refused c =
    let t = table_of c.args.table.now in let command = scan (map steps_of c.args.paths.now) c.args.predicate.now in let e = c.in_err-parts.field-0.0 in
    let large = HasTooLarge t.kind (arrays_of c.args.table.now) in
    let refused : Explains large (refusal t command) e = explains_any large (refusal t command) e c.in_err-parts.ensures.refused in
    let gives = c.from_residual.ensures.1 in
    search (rules, refused, gives)

pub returns-in_err-rows-clause-refused : goal.returns-in_err-rows-clause-refused
returns-in_err-rows-clause-refused c =
    let t = table_of c.args.table.now in let steps = map steps_of c.args.paths.now in let e = c.args.predicate.now in let x = c.in_err-rows.field-0.0 in
    let large = HasTooLarge t.kind (arrays_of c.args.table.now) in let are = c.in_ok-parts.ensures.shared in
    let by_parts = subst (λ (ps : List Table). Explains ⊥ (first_refusal (scan steps e) (map table_of ps)) x) c.deref.ensures.value c.in_err-rows.ensures.refused in
    let refused : Explains large (refusal t (scan steps e)) x =
    explained_more ⊥ large (refusal t (scan steps e)) x (λ h. absurd h) (refused_as_whole t steps e ⊥ (map table_of c.in_ok-parts.parts.items) x are.kinds by_parts) in
    let gives = c.from_residual-in_err-rows.ensures.1 in
    search (rules, refused, gives)
