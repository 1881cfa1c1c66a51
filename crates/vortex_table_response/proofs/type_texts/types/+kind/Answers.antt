use Rattle.std.proofs.Common.{◌≡◌, ◌<◌, ap, ◌∙◌, sym, subst, codes, decimal, ◌++◌, rules, arith}
use Rattle.std.specs.Prelude.{OnOk}
use Rattle.vortex_model.specs.LogicalType.{LogicalType, Fields, boolean_type, utf8, list, fixed_list, struct, is_nullable}
use Rattle.vortex_dtype_ptype.specs.View.{nullability_of_flag}
use Rattle.vortex_dtype_core.specs.View.{type_of, fields_of}
use Rattle.vortex_dtype_core.specs.declared.dtype.DType as type
use Rattle.vortex_dtype_core.proofs.Views.{type_of-List, type_of-FixedSizeList, type_of-Struct}
use Rattle.vortex_table_response.specs.type_texts.Text.{type_text, flag_text, list_end_text, fixed_list_end_text, struct_end_text}
use Rattle.vortex_table_response.proofs.type_texts.Pieces.{one_more_child, ended_as, three_pieces, list_pieces, fixed_list_pieces}
use Rattle.vortex_dtype_core.proofs.Sizes.{type_size, fields_size, field_smaller}
use Rattle.vortex_table_response.proofs.type_texts.types.+kind.Goals as goal

pub push_dtype-returns-in-Bool : goal.push_dtype-returns-in-Bool
push_dtype-returns-in-Bool t c =
    let n = c.in-Bool.nullability in
    let here : type_of (type.Bool n) ≡ boolean_type (nullability_of_flag n) = search (rules, type.the_lemmas) in
    subst (λ k. OnOk c.push_plain.result (c.push_plain.new.out.items ≡ c.args.out.now.items ++ type_text k)) (sym (ap type_of c.in-Bool.is ∙ here)) c.push_plain.ensures

pub push_dtype-returns-in-Utf8 : goal.push_dtype-returns-in-Utf8
push_dtype-returns-in-Utf8 t c =
    let n = c.in-Utf8.nullability in
    let here : type_of (type.Utf8 n) ≡ utf8 (nullability_of_flag n) = search (rules, type.the_lemmas) in
    subst (λ k. OnOk c.push_plain-in-Utf8.result (c.push_plain-in-Utf8.new.out.items ≡ c.args.out.now.items ++ type_text k)) (sym (ap type_of c.in-Utf8.is ∙ here)) c.push_plain-in-Utf8.ensures

pub push_children-push_dtype-requires : goal.push_children-push_dtype-requires
push_children-push_dtype-requires t c =
    let e : type_size (type_of c.field-item.result.dtype) < fields_size (fields_of c.args.fields.now) = field_smaller c.args.fields.now c.loop-field.field-index c.field-item.result (omega arith) c.field-item.is in
    let d : fields_size (fields_of c.args.fields.now) ≡ t = c.decreases in
    (omega (arith, e, d), tt)

pub push_children-loop-field-preserved : goal.push_children-loop-field-preserved
push_children-loop-field-preserved t c =
    one_more_child _ _ _ _ c.loop-field.later c.args.fields.now c.loop-field.field-index c.field-item.result (omega arith) c.field-item.is
    c.in_ok-push_comma.ensures c.in_ok-push_dtype.ensures c.loop-field.invariant

pub push_dtype-returns-in_ok-push_children-in-Struct : goal.push_dtype-returns-in_ok-push_children-in-Struct
push_dtype-returns-in_ok-push_children-in-Struct t c =
    let e : type_of c.args.dtype.now ≡ struct (fields_of c.as_slice-fields.result.now) (nullability_of_flag c.in-Struct.nullability) =
    ap type_of c.in-Struct.is ∙ type_of-Struct c.in-Struct.fields c.in-Struct.nullability
    ∙ ap (λ (fs : Fields). struct fs (nullability_of_flag c.in-Struct.nullability)) (sym c.as_slice-fields.ensures.fields) in
    ended_as c.args.out.now.items c.push_children.new.out.items (struct_end_text (fields_of c.as_slice-fields.result.now) (nullability_of_flag c.in-Struct.nullability)) (type_text (type_of c.args.dtype.now)) c.push_struct_end.new.out.items c.push_struct_end.result
    (λ ended. three_pieces c.args.out.now.items _ _ _ _ _ _ c.in_ok-extend_from_slice-in-Struct.ensures.items c.in_ok-push_children-in-Struct.ensures ended
    ∙ ap (λ (k : LogicalType). c.args.out.now.items ++ type_text k) (sym e))
    c.push_struct_end.ensures

pub push_dtype-returns-in_ok-push_dtype-in-List : goal.push_dtype-returns-in_ok-push_dtype-in-List
push_dtype-returns-in_ok-push_dtype-in-List t c =
    let n = nullability_of_flag c.in-List.nullability in
    let child : c.in-List.element.value ≡ c.deref.result.now = cc (c.deref.ensures) in
    let e : type_of c.args.dtype.now ≡ list (type_of c.deref.result.now) n = ap type_of c.in-List.is ∙ type_of-List _ _ ∙ ap (λ d. list (type_of d) n) child in
    ended_as c.args.out.now.items c.push_dtype.new.out.items (list_end_text n) (type_text (type_of c.args.dtype.now)) c.push_list_end.new.out.items c.push_list_end.result
    (λ ended. list_pieces c.args.out.now.items (codes "{\"children\":[") (type_text (type_of c.deref.result.now)) (codes "],\"kind\":\"list\",\"nullable\":") (flag_text (is_nullable n)) (codes "}") _ _ _
    c.in_ok-extend_from_slice-in-List.ensures.items c.in_ok-push_dtype-in-List.ensures ended
    ∙ ap (λ (k : LogicalType). c.args.out.now.items ++ type_text k) (sym e))
    c.push_list_end.ensures

pub push_dtype-returns-in_ok-push_dtype-in-FixedSizeList : goal.push_dtype-returns-in_ok-push_dtype-in-FixedSizeList
push_dtype-returns-in_ok-push_dtype-in-FixedSizeList t c =
    let n = nullability_of_flag c.in-FixedSizeList.nullability in
    let size = c.in-FixedSizeList.size in
    let child : c.in-FixedSizeList.element.value ≡ c.deref-in-FixedSizeList.result.now = cc (c.deref-in-FixedSizeList.ensures) in
    let e : type_of c.args.dtype.now ≡ fixed_list (type_of c.deref-in-FixedSizeList.result.now) size n =
    ap type_of c.in-FixedSizeList.is ∙ type_of-FixedSizeList _ _ _ ∙ ap (λ d. fixed_list (type_of d) size n) child in
    ended_as c.args.out.now.items c.push_dtype-in-FixedSizeList.new.out.items (fixed_list_end_text size n) (type_text (type_of c.args.dtype.now)) c.push_fixed_list_end.new.out.items c.push_fixed_list_end.result
    (λ ended. fixed_list_pieces c.args.out.now.items (codes "{\"children\":[") (type_text (type_of c.deref-in-FixedSizeList.result.now)) (codes "],\"kind\":\"fixed_size_list\",\"nullable\":")
    (flag_text (is_nullable n)) (codes ",\"size\":") (decimal size) (codes "}") _ _ _
    c.in_ok-extend_from_slice-in-FixedSizeList.ensures.items c.in_ok-push_dtype-in-FixedSizeList.ensures ended
    ∙ ap (λ (k : LogicalType). c.args.out.now.items ++ type_text k) (sym e))
    c.push_fixed_list_end.ensures
