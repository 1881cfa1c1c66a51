use Rattle.std.proofs.Common.{ap, sym, ◌∙◌, map}
use Rattle.std.proofs.lemmas.Result.{IfOk-weaker}
use Rattle.vortex_arrays_model.specs.Layout.{records}
use Rattle.vortex_arrays_model.specs.Parts.{columns_of}
use Rattle.vortex_arrays_core.specs.LayoutOf.{valid_of}
use Rattle.vortex_table_schema.specs.Cut.{tree_of, part_of_field}
use Rattle.vortex_table_select.specs.Lists.{cut_values, cut_lists, lists_of}
use Rattle.vortex_table_select.proofs.CutRows.{columns_within, whole_records, kept_records}
use Rattle.vortex_table_select.proofs.rows.read_records.Goals as goal

pub whole_lists-requires : goal.whole_lists-requires
whole_lists-requires c = columns_within c.args.names.now c.args.columns.now c.args.len c.args.rows.now c.requires.sound.0 c.requires.within

pub kept_lists-requires : goal.kept_lists-requires
kept_lists-requires c = columns_within c.args.names.now c.args.columns.now c.args.len c.args.rows.now c.requires.sound.0 c.requires.within

pub returns-in_ok-lists-in-Whole : goal.returns-in_ok-lists-in-Whole
returns-in_ok-lists-in-Whole c =
    let v = valid_of c.args.validity.now in let columns = c.args.columns.now in let n = c.args.len in let rows = c.args.rows.now in
    IfOk-weaker c.into_records.result _ _ (λ values e.
    e ∙ whole_records c.args.names.now columns n v rows (lists_of c.in_ok-lists-in-Whole.lists.items) c.in_ok-lists-in-Whole.ensures
    ∙ ap (λ p. cut_values (tree_of p) (records (columns_of c.args.names.now columns) n v) rows) (sym c.in-Whole.is)) c.into_records.ensures

pub returns-in_ok-lists-in-Fields : goal.returns-in_ok-lists-in-Fields
returns-in_ok-lists-in-Fields c =
    let v = valid_of c.args.validity.now in let columns = c.args.columns.now in let n = c.args.len in let rows = c.args.rows.now in
    IfOk-weaker c.into_records-in-Fields.result _ _ (λ values e.
    e ∙ kept_records c.args.names.now columns n v rows c.in-Fields.fields (lists_of c.in_ok-lists-in-Fields.lists.items) (c.in_ok-lists-in-Fields.ensures ∙ ap (λ fs. map (cut_lists columns (map part_of_field fs)) rows) c.deref.ensures.value)
    ∙ ap (λ p. cut_values (tree_of p) (records (columns_of c.args.names.now columns) n v) rows) (sym c.in-Fields.is)) c.into_records-in-Fields.ensures
