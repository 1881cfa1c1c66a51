use Rattle.std.proofs.lemmas.Result.{IfOk-weaker}
use Rattle.vortex_table_schema.specs.Cut.{tree_of}
use Rattle.vortex_table_select.proofs.CutRows.{kept_row}
use Rattle.vortex_table_select.proofs.column.CutValues.value.Goals as goal

pub returns : goal.returns
returns c =
    let cut = c.args.self.now in
    IfOk-weaker c.keep.result _ _ (λ kept e.
    kept_row (tree_of cut.projection.now) cut.array.now c.args.row c.in_ok-value.value kept c.len.ensures.sound c.requires c.in_ok-value.ensures.content c.in_ok-value.ensures.valid e) c.keep.ensures
