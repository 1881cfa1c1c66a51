use Rattle.std.proofs.Common.{◌≡◌, IfSome, pos, map, ap, sym, subst, ◌∙◌}
use Rattle.vortex_model.specs.LogicalType.{integer_type}
use Rattle.vortex_model.specs.Content.{raw_number}
use Rattle.vortex_dtype_ptype.specs.View.{nullability_of_flag}
use Rattle.vortex_arrays_buffer.specs.PrimitiveBuffers.{kind_of_numbers, integers_of}
use Rattle.vortex_arrays_core.specs.LayoutOf.{valid_of}
use Rattle.vortex_table_columns.specs.Cells.{cell_raw, IsColumn}
use Rattle.vortex_table_columns.specs.Numbers.{cells_by}
use Rattle.vortex_table_columns.proofs.CellLemmas.{column_integers}
use Rattle.vortex_table_columns.proofs.cells.of_integers.Goals as goal

pub of_numbers-requires : goal.of_numbers-requires
of_numbers-requires g c =
    let f = g.T.Sealed.integer in
    let made = c.from_buffer-items.result in
    let zero : f c.in_ok-zero.zero ≡ pos 0 = subst (λ o. IfSome o (λ x. f x ≡ pos 0)) c.in_ok-zero.ensures.ok_part c.of.ensures.number in
    (column_integers f c.in_ok-zero.zero (kind_of_numbers made) g.T.Sealed.kind (nullability_of_flag c.args.nullability) c.args.cells.now c.in_ok-items.items.items (integers_of made) (valid_of c.in_ok-validity.validity)
    c.from_buffer-items.ensures.kind zero c.in_ok-items.ensures (c.from_buffer-items.ensures.numbers ∙ ap (map f) c.in_ok-from_vec.ensures) c.from_buffer-items.ensures.held c.in_ok-validity.ensures).sound.1

pub returns : goal.returns
returns g c =
    let f = g.T.Sealed.integer in
    let k = g.T.Sealed.kind in
    let n = nullability_of_flag c.args.nullability in
    let made = c.from_buffer-items.result in
    let zero : f c.in_ok-zero.zero ≡ pos 0 = subst (λ o. IfSome o (λ x. f x ≡ pos 0)) c.in_ok-zero.ensures.ok_part c.of.ensures.number in
    subst (IsColumn (integer_type k n) (map (cell_raw (raw_number k)) (cells_by f c.args.cells.now))) (sym c.in_ok-array.ensures)
    (column_integers f c.in_ok-zero.zero (kind_of_numbers made) k n c.args.cells.now c.in_ok-items.items.items (integers_of made) (valid_of c.in_ok-validity.validity)
    c.from_buffer-items.ensures.kind zero c.in_ok-items.ensures (c.from_buffer-items.ensures.numbers ∙ ap (map f) c.in_ok-from_vec.ensures) c.from_buffer-items.ensures.held c.in_ok-validity.ensures)
