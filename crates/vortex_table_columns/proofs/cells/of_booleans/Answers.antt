use Rattle.std.proofs.Common.{◌≡◌, false, map, unwrap_or, sym, subst, ◌∙◌}
use Rattle.vortex_model.specs.LogicalType.{boolean_type}
use Rattle.vortex_model.specs.Content.{raw_boolean}
use Rattle.vortex_dtype_ptype.specs.View.{nullability_of_flag}
use Rattle.vortex_arrays_core.specs.LayoutOf.{valid_of}
use Rattle.vortex_table_columns.specs.Cells.{cell_raw, IsColumn}
use Rattle.vortex_table_columns.proofs.CellLemmas.{column_booleans}
use Rattle.vortex_table_columns.proofs.cells.of_booleans.Goals as goal

pub of_bools-requires : goal.of_bools-requires
of_bools-requires c =
    let bits : c.in_ok-bits-2.bits ≡ map (λ x. unwrap_or x false) c.args.cells.now = c.in_ok-bits-2.ensures ∙ c.as_slice.ensures.value ∙ c.in_ok-bits.ensures in
    let made = column_booleans (nullability_of_flag c.args.nullability) c.args.cells.now c.in_ok-bits-2.bits (valid_of c.in_ok-validity.validity) false bits c.in_ok-validity.ensures in
    made.sound

pub returns : goal.returns
returns c =
    let bits : c.in_ok-bits-2.bits ≡ map (λ x. unwrap_or x false) c.args.cells.now = c.in_ok-bits-2.ensures ∙ c.as_slice.ensures.value ∙ c.in_ok-bits.ensures in
    subst (IsColumn (boolean_type (nullability_of_flag c.args.nullability)) (map (cell_raw raw_boolean) c.args.cells.now)) (sym c.in_ok-array.ensures)
    (column_booleans (nullability_of_flag c.args.nullability) c.args.cells.now c.in_ok-bits-2.bits (valid_of c.in_ok-validity.validity) false bits c.in_ok-validity.ensures)
