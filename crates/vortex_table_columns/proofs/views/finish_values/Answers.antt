use Rattle.std.proofs.Common.{◌≡◌, [], ◌∷◌, map, unwrap_or, sym, subst, ap, ◌∙◌}
use Rattle.vortex_dtype_ptype.specs.View.{nullability_of_flag}
use Rattle.vortex_arrays_view.specs.Made.{short_view}
use Rattle.vortex_arrays_model.specs.Layout.{strings, type_of_strings, IsSound}
use Rattle.vortex_arrays_core.specs.LayoutOf.{strings_of, valid_of}
use Rattle.vortex_arrays_core.specs.RawRows.{raw_string}
use Rattle.vortex_table_columns.specs.Cells.{cell_raw, IsColumn}
use Rattle.vortex_table_columns.specs.Views.{values_of}
use Rattle.vortex_table_columns.proofs.ViewLemmas.{column_values}
use Rattle.vortex_table_columns.proofs.views.finish_values.Goals as goal

pub of_strings-requires : goal.of_strings-requires
of_strings-requires c =
    let s = strings_of c.args.kind in
    let made = column_values s (nullability_of_flag c.args.nullability) c.args.bytes.items (short_view []) c.args.views.now c.in_ok-all.all (valid_of c.in_ok-validity.validity) c.requires c.in_ok-all.ensures c.in_ok-validity.ensures in
    subst (λ bs. IsSound (strings s c.in_ok-all.all bs (valid_of c.in_ok-validity.validity))) (sym c.in_ok-buffers.ensures) made.sound

pub returns : goal.returns
returns c =
    let s = strings_of c.args.kind in
    let v = valid_of c.in_ok-validity.validity in
    let made = column_values s (nullability_of_flag c.args.nullability) c.args.bytes.items (short_view []) c.args.views.now c.in_ok-all.all v c.requires c.in_ok-all.ensures c.in_ok-validity.ensures in
    subst (IsColumn (type_of_strings s (nullability_of_flag c.args.nullability)) (map (cell_raw (raw_string s)) (values_of c.args.bytes.items c.args.views.now)))
    (sym (c.in_ok-array.ensures ∙ ap (λ bs. strings s c.in_ok-all.all bs v) c.in_ok-buffers.ensures)) made
