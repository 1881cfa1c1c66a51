use Rattle.std.proofs.Common.{map, sym, subst}
use Rattle.vortex_model.specs.LogicalType.{fixed_list}
use Rattle.vortex_dtype_ptype.specs.View.{nullability_of_flag}
use Rattle.vortex_arrays_model.specs.Layout.{array_type_of}
use Rattle.vortex_arrays_core.specs.LayoutOf.{valid_of}
use Rattle.vortex_table_columns.specs.Cells.{IsColumn}
use Rattle.vortex_table_columns.specs.Nested.{tuple_or_null}
use Rattle.vortex_table_columns.proofs.InsideLemmas.{sized_column}
use Rattle.vortex_table_columns.proofs.inside.of_fixed_lists.Goals as goal

pub of_fixed_lists-requires : goal.of_fixed_lists-requires
of_fixed_lists-requires c = λ sound.
    let h = c.requires.1 in
    let e = c.args.items in
    (sized_column (nullability_of_flag c.args.nullability) c.args.present.now (valid_of c.in_ok-validity.validity) c.requires.0 c.in_ok-validity.ensures h.marks (array_type_of e) c.args.size e h.counts h.inside).sound

pub returns : goal.returns
returns c = λ rows h.
    let e = c.args.items in
    let n = nullability_of_flag c.args.nullability in
    subst (IsColumn (fixed_list (array_type_of e) c.args.size n) (map tuple_or_null rows)) (sym c.in_ok-array.ensures)
    (sized_column n c.args.present.now (valid_of c.in_ok-validity.validity) rows c.in_ok-validity.ensures h.marks (array_type_of e) c.args.size e h.counts h.inside)
