use Rattle.std.proofs.Common.{◌∙◌, ap, sym, subst, map, not}
use Rattle.std.specs.List.{range_with_len}
use Rattle.std.proofs.lemmas.Result.{IfOk-weaker}
use Rattle.vortex_model.specs.Content.{is_null}
use Rattle.vortex_arrays_model.specs.Layout.{rows_of, is_valid, IsSound}
use Rattle.vortex_arrays_model.specs.Parts.{columns_of}
use Rattle.vortex_arrays_buffer.specs.PrimitiveBuffers.{kind_of_numbers, integers_of}
use Rattle.vortex_arrays_core.specs.LayoutOf.{layout_of, valid_of, strings_of}
use Rattle.vortex_stats_select.proofs.NullLemmas.{bools_told, numbers_told, strings_told, fixed_lists_told, list_views_told, records_told, looked}
use Rattle.vortex_stats_select.proofs.nulls.present_rows.Goals as goal

pub returns-in-Bool : goal.returns-in-Bool
returns-in-Bool c =
    let same = sym c.layout.ensures.layout ∙ ap layout_of c.in-Bool.is in let v = valid_of c.in-Bool.validity in
    IfOk-weaker c.valid_rows.result _ _ (λ mask is. is ∙ (λ i. map (is_valid v) (range_with_len 0 (c.len.ensures i))) ∙ bools_told c.in-Bool.bits v ∙ (λ i. map (λ c. not (is_null c)) (rows_of (sym same i)))) c.valid_rows.ensures

pub returns-in-Primitive : goal.returns-in-Primitive
returns-in-Primitive c =
    let same = sym c.layout.ensures.layout ∙ ap layout_of c.in-Primitive.is in let v = valid_of c.in-Primitive.validity in
    IfOk-weaker c.valid_rows-in-Primitive.result _ _ (λ mask is. is ∙ (λ i. map (is_valid v) (range_with_len 0 (c.len-in-Primitive.ensures.count i))) ∙ numbers_told (kind_of_numbers c.in-Primitive.items) (integers_of c.in-Primitive.items) v ∙ (λ i. map (λ c. not (is_null c)) (rows_of (sym same i)))) c.valid_rows-in-Primitive.ensures

pub returns-in-VarBinView : goal.returns-in-VarBinView
returns-in-VarBinView c =
    let same = sym c.layout.ensures.layout ∙ ap layout_of c.in-VarBinView.is in let v = valid_of c.in-VarBinView.validity in
    IfOk-weaker c.valid_rows-in-VarBinView.result _ _ (λ mask is. is ∙ (λ i. map (is_valid v) (range_with_len 0 (c.len-in-VarBinView.ensures i))) ∙ strings_told (strings_of c.in-VarBinView.field-0) c.in-VarBinView.views c.in-VarBinView.field-2.value.items v ∙ (λ i. map (λ c. not (is_null c)) (rows_of (sym same i)))) c.valid_rows-in-VarBinView.ensures

pub returns-in-FixedSizeList : goal.returns-in-FixedSizeList
returns-in-FixedSizeList c =
    let same = sym c.layout.ensures.layout ∙ ap layout_of c.in-FixedSizeList.is in let v = valid_of c.in-FixedSizeList.validity in
    IfOk-weaker c.valid_rows-in-FixedSizeList.result _ _ (λ mask is. is ∙ fixed_lists_told c.in-FixedSizeList.field-0 c.in-FixedSizeList.field-1 c.in-FixedSizeList.len v ∙ (λ i. map (λ c. not (is_null c)) (rows_of (sym same i)))) c.valid_rows-in-FixedSizeList.ensures

pub returns-in-ListView : goal.returns-in-ListView
returns-in-ListView c =
    let same = sym c.layout.ensures.layout ∙ ap layout_of c.in-ListView.is in let v = valid_of c.in-ListView.validity in
    IfOk-weaker c.valid_rows-in-ListView.result _ _ (λ mask is. is ∙ (λ i. map (is_valid v) (range_with_len 0 (c.len-in-ListView.ensures.count i))) ∙ list_views_told c.in-ListView.field-0 c.in-ListView.offsets c.in-ListView.field-2 c.in-ListView.field-3 v ∙ (λ i. map (λ c. not (is_null c)) (rows_of (sym same i)))) c.valid_rows-in-ListView.ensures

pub returns-in-Struct : goal.returns-in-Struct
returns-in-Struct c =
    let same = sym c.layout.ensures.layout ∙ ap layout_of c.in-Struct.is in let v = valid_of c.in-Struct.validity in
    IfOk-weaker c.valid_rows-in-Struct.result _ _ (λ mask is. is ∙ records_told (columns_of c.in-Struct.field-0.value c.in-Struct.field-1.items) c.in-Struct.len v ∙ (λ i. map (λ c. not (is_null c)) (rows_of (sym same i)))) c.valid_rows-in-Struct.ensures

pub returns-in-Constant : goal.returns-in-Constant
returns-in-Constant c = IfOk-weaker c.looked_at.result _ _ (λ mask is. is ∙ looked c.args.column.now) c.looked_at.ensures

pub present_coded-requires-clause-within : goal.present_coded-requires-clause-within
present_coded-requires-clause-within c = (subst IsSound (ap layout_of c.in-Dict.is) c.layout.ensures.sound).3

pub present_coded-requires-clause-column : goal.present_coded-requires-clause-column
present_coded-requires-clause-column c f = ap rows_of (sym c.layout.ensures.layout ∙ ap layout_of c.in-Dict.is)
