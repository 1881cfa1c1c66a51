use Rattle.std.proofs.Common.{ap, subst, map, flat_map, drop, arith, rules, ◌+◌}
use Rattle.vortex_model_table.specs.Command.{names_of, refusal, scan}
use Rattle.vortex_model_table.specs.Table.{answer}
use Rattle.vortex_dtype_path.specs.View.{steps_of}
use Rattle.vortex_scalar_core.specs.Scalar.{scalar_content}
use Rattle.vortex_table_core.specs.TableView.{table_of}
use Rattle.vortex_table_schema.specs.Error.{Explains}
use Rattle.vortex_table_schema.proofs.Explained.{explained_first}
use Rattle.example_planner.specs.Split.{first_refusal}
use Rattle.example_planner.proofs.Gathered.{found_behind, all_found, next_refusal, passed_on, none_refused}
use Rattle.example_planner.proofs.plan.gather.Goals as goal

pub loop-part-preserved : goal.loop-part-preserved
loop-part-preserved c =
    let paths = map names_of (map steps_of c.args.paths.now) in let parts = c.args.parts.now in let command = scan (map steps_of c.args.paths.now) c.args.predicate.now in
    record {
      rows = found_behind scalar_content (λ part. answer part paths c.args.predicate.now) table_of parts c.loop-part.part-index c.part-item.result
          c.loop-part.rows.items c.in_ok-found.found.rows.items c.append.new.self.items
          (flat_map (λ part. answer part paths c.args.predicate.now) (map table_of parts)) c.loop-part-test.true c.part-item.is (ap (λ a. a.rows) c.in_ok-found.ensures.found)
          c.in_ok-append.ensures.items c.loop-part.invariant.rows;
      refusal = passed_on table_of command parts c.loop-part.part-index c.part-item.result (first_refusal command (map table_of parts)) c.loop-part-test.true c.part-item.is
          c.in_ok-found.ensures.accepted c.loop-part.invariant.refusal;
      formed = λ some. c.in_ok-found.ensures.formed;
    }

pub returns-in_err-found-clause-refused : goal.returns-in_err-found-clause-refused
returns-in_err-found-clause-refused c =
    let parts = c.args.parts.now in let command = scan (map steps_of c.args.paths.now) c.args.predicate.now in let e = c.in_err-found.field-0.0 in
    let first = refusal (table_of c.part-item.result) command in let rest = first_refusal command (map table_of (drop (c.loop-part.part-index + 1) parts)) in
    let refused : Explains ⊥ (first_refusal command (map table_of parts)) e =
    subst (λ o. Explains ⊥ o e) (next_refusal table_of command parts c.loop-part.part-index c.part-item.result (first_refusal command (map table_of parts)) c.loop-part-test.true c.part-item.is c.loop-part.invariant.refusal)
    (explained_first ⊥ first rest e c.in_err-found.ensures.refused) in
    let gives = c.from_residual.ensures.1 in
    search (rules, refused, gives)

pub returns-clause-rows : goal.returns-clause-rows
returns-clause-rows c =
    let paths = map names_of (map steps_of c.args.paths.now) in let parts = c.args.parts.now in
    all_found scalar_content (λ part. answer part paths c.args.predicate.now) table_of parts c.loop-part.part-index c.loop-part.rows.items
    (flat_map (λ part. answer part paths c.args.predicate.now) (map table_of parts)) c.loop-part-test.false c.loop-part.invariant.rows

pub returns-clause-accepted : goal.returns-clause-accepted
returns-clause-accepted c =
    let parts = c.args.parts.now in let command = scan (map steps_of c.args.paths.now) c.args.predicate.now in
    none_refused table_of command parts c.loop-part.part-index (first_refusal command (map table_of parts)) c.loop-part-test.false c.loop-part.invariant.refusal

pub returns-clause-formed : goal.returns-clause-formed
returns-clause-formed c = λ some. let done = c.loop-part-test.false in c.loop-part.invariant.formed (omega (arith, some, done))
