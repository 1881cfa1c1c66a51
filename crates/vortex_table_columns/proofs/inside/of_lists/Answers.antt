use Rattle.std.proofs.Common.{true, map, sym, subst, ◌∙◌}
use Rattle.vortex_model.specs.LogicalType.{list}
use Rattle.vortex_dtype_ptype.specs.View.{nullability_of_flag}
use Rattle.vortex_arrays_model.specs.Layout.{array_type_of, list_views, IsSound}
use Rattle.vortex_arrays_core.specs.LayoutOf.{valid_of}
use Rattle.vortex_table_columns.specs.Cells.{cell_raw, IsColumn}
use Rattle.vortex_table_columns.specs.Nested.{tuple_of, StandEndToEnd}
use Rattle.vortex_table_columns.proofs.InsideLemmas.{lists_column}
use Rattle.vortex_table_columns.proofs.inside.of_lists.Goals as goal

pub of_list_views-requires : goal.of_list_views-requires
of_list_views-requires c = λ _ _ _.
    let e = c.args.items in
    let v = valid_of c.in_ok-validity.validity in
    let os = c.in_ok-offsets.offsets.items in
    let ss = c.in_ok-sizes.sizes.items in
    let h = c.requires.1 in
    let ends : StandEndToEnd ss os = subst (λ xs. StandEndToEnd xs os) c.as_slice.ensures.value c.in_ok-offsets.ensures in
    let made = lists_column (array_type_of e) (nullability_of_flag c.args.nullability) c.args.sizes.now c.requires.0 e os ss v c.in_ok-validity.ensures h.counts c.in_ok-sizes.ensures ends h.inside c.in_ok-offsets-2.ensures.held c.in_ok-sizes-2.ensures.held in
    let o = c.in_ok-offsets-2.ensures.made in
    let s = c.in_ok-sizes-2.ensures.made in
    subst IsSound (λ t. list_views e (sym o t) (sym s t) true v) made.sound

pub returns : goal.returns
returns c = λ rows h.
    let e = c.args.items in
    let n = nullability_of_flag c.args.nullability in
    let v = valid_of c.in_ok-validity.validity in
    let os = c.in_ok-offsets.offsets.items in
    let ss = c.in_ok-sizes.sizes.items in
    let ends : StandEndToEnd ss os = subst (λ xs. StandEndToEnd xs os) c.as_slice.ensures.value c.in_ok-offsets.ensures in
    let made = lists_column (array_type_of e) n c.args.sizes.now rows e os ss v c.in_ok-validity.ensures h.counts c.in_ok-sizes.ensures ends h.inside c.in_ok-offsets-2.ensures.held c.in_ok-sizes-2.ensures.held in
    let o = c.in_ok-offsets-2.ensures.made in
    let s = c.in_ok-sizes-2.ensures.made in
    subst (IsColumn (list (array_type_of e) n) (map (cell_raw tuple_of) rows)) (sym (c.in_ok-array.ensures ∙ (λ t. list_views e (o t) (s t) true v))) made
