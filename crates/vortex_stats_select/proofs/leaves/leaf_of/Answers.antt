use Rattle.std.proofs.Common.{◌∙◌, ap, sym, subst, map}
use Rattle.vortex_model.specs.Content.{boolean, integer}
use Rattle.vortex_arrays_model.specs.Layout.{rows_of, string_content, IsSound}
use Rattle.vortex_arrays_buffer.specs.PrimitiveBuffers.{kind_of_numbers, integers_of}
use Rattle.vortex_arrays_view.specs.Views.{value_of}
use Rattle.vortex_arrays_core.specs.LayoutOf.{layout_of, valid_of, strings_of}
use Rattle.vortex_stats_mask.specs.Headed.{ViewsHaveHeads}
use Rattle.vortex_stats_mask.specs.Columns.{shown}
use Rattle.vortex_stats_select.proofs.LeafLemmas.{bools_shown, numbers_shown, strings_shown, heads_told}
use Rattle.vortex_stats_select.proofs.leaves.leaf_of.Goals as goal

pub returns-in_ok-to_bools-in-Bool : goal.returns-in_ok-to_bools-in-Bool
returns-in_ok-to_bools-in-Bool c =
    let same = sym c.layout.ensures.layout ∙ ap layout_of c.in-Bool.is in
    let o = c.in_ok-validity-in-Bool.validity in let bits = c.in-Bool.bits in
    (λ i. shown o (map boolean ((c.in_ok-to_bools-in-Bool.ensures) i)))
    ∙ bools_shown (valid_of c.in-Bool.validity) c.len.result o c.in_ok-validity-in-Bool.ensures bits (sym c.len.ensures)
    ∙ (λ i. rows_of (sym same i))

pub returns-in_ok-clone-in-Primitive : goal.returns-in_ok-clone-in-Primitive
returns-in_ok-clone-in-Primitive c =
    let same = sym c.layout.ensures.layout ∙ ap layout_of c.in-Primitive.is in
    let o = c.in_ok-validity-in-Primitive.validity in let ns = c.in-Primitive.numbers in
    (λ i. shown o (map integer (integers_of (c.in_ok-clone-in-Primitive.ensures.cases i))))
    ∙ numbers_shown (valid_of c.in-Primitive.validity) c.len-in-Primitive.result o c.in_ok-validity-in-Primitive.ensures (kind_of_numbers ns) (integers_of ns) (sym c.len-in-Primitive.ensures.count)
    ∙ (λ i. rows_of (sym same i))

pub returns-in_ok-clone-in-VarBinView-2 : goal.returns-in_ok-clone-in-VarBinView-2
returns-in_ok-clone-in-VarBinView-2 c =
    let same = sym c.layout.ensures.layout ∙ ap layout_of c.in-VarBinView.is in
    let o = c.in_ok-validity-in-VarBinView.validity in let vs = c.in-VarBinView.views in
    let s = strings_of c.in-VarBinView.kind in let bs = c.in-VarBinView.buffers.value.items in
    ap (shown o) (c.string_items-items.ensures.values ∙ (λ i. map (string_content s) (map (λ x. value_of x (c.in_ok-clone-in-VarBinView-2.ensures.cases i).items) (c.in_ok-clone-in-VarBinView.ensures.cases i))))
    ∙ strings_shown (valid_of c.in-VarBinView.validity) c.len-in-VarBinView.result o c.in_ok-validity-in-VarBinView.ensures s vs bs (sym c.len-in-VarBinView.ensures)
    ∙ (λ i. rows_of (sym same i))

pub invariant_of-result-in-VarBinView : goal.invariant_of-result-in-VarBinView
invariant_of-result-in-VarBinView c =
    let o = c.in_ok-validity-in-VarBinView.validity in let vs = c.in-VarBinView.views in let n = c.len-in-VarBinView.result in
    let v = valid_of c.in-VarBinView.validity in let s = strings_of c.in-VarBinView.kind in let bs = c.in-VarBinView.buffers.value.items in
    let sound = subst IsSound (ap layout_of c.in-VarBinView.is) c.layout.ensures.sound in
    let heads = heads_told s vs bs v n o (sym c.len-in-VarBinView.ensures) sound c.in_ok-validity-in-VarBinView.ensures in
    record {
      headed = ∣ c.string_items-items.ensures.headed o
          (subst (λ b. ViewsHaveHeads o c.in_ok-clone-in-VarBinView.field-0 b.items) (sym c.in_ok-clone-in-VarBinView-2.ensures.cases)
          (subst (λ ys. ViewsHaveHeads o ys bs) (sym c.in_ok-clone-in-VarBinView.ensures.cases) heads)) ∣₁;
    }
