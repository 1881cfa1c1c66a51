use Rattle.std.proofs.Common.{◌++◌, ◌∙◌, ap, map}
use Rattle.std.proofs.lemmas.Result.{on_ok_weaker}
use Rattle.vortex_scalar_core.specs.Scalar.{scalar_content}
use Rattle.vortex_table_schema.specs.Cut.{tree_of}
use Rattle.vortex_table_select.proofs.Taken.{said_cut, cut_valid}
use Rattle.vortex_table_select.proofs.read.push_rows.Goals as goal

pub push_scalars-requires-clause-valid : goal.push_scalars-requires-clause-valid
push_scalars-requires-clause-valid c =
    cut_valid c.tests_of_validity_are_right.ensures c.args.cut.now c.args.array.now c.args.rows.now c.in_ok-values.values.items c.len.ensures.sound c.requires.within c.requires.valid c.in_ok-values.ensures

pub returns-clause-content : goal.returns-clause-content
returns-clause-content c =
    on_ok_weaker c.push_scalars.result (λ e.
    e ∙ ap (λ xs. map scalar_content c.args.found.now.items ++ xs) (said_cut (tree_of c.args.cut.now.projection) c.args.array.now c.args.rows.now c.in_ok-values.values.items c.in_ok-values.ensures)) c.push_scalars.ensures.content
