use Rattle.std.proofs.Common.{◌≡◌, ◌∙◌, ap, sym, subst, replicate}
use Rattle.std.specs.Prelude.{IfOk, IfSome}
use Rattle.vortex_model.specs.Content.{content_of}
use Rattle.vortex_arrays_model.specs.Layout.{len_of, rows_of, IsSound}
use Rattle.vortex_arrays_core.specs.LayoutOf.{layout_of}
use Rattle.vortex_scalar_core.specs.Scalar.{scalar_type, scalar_raw}
use Rattle.vortex_stats_select.specs.Operands.{operand_rows}
use Rattle.vortex_stats_select.proofs.OperandLemmas.{constant_rows}
use Rattle.vortex_stats_select.proofs.operand.array_operand.Goals as goal

pub returns-in_ok-value-in-Constant : goal.returns-in_ok-value-in-Constant
returns-in_ok-value-in-Constant c =
    let same = sym c.layout.ensures.layout ∙ ap layout_of c.in-Constant.is in let s = c.in-Constant.scalar in
    (λ i. replicate (len_of (same i)) (content_of ((c.in_ok-value-in-Constant.ensures ∙ c.value.ensures.value) i)))
    ∙ sym (constant_rows (scalar_type s) (scalar_raw s) c.in-Constant.field-1) ∙ (λ i. rows_of (sym same i))

pub dictionary_operand-requires : goal.dictionary_operand-requires
dictionary_operand-requires c = (subst IsSound (ap layout_of c.in-Dict.is) c.layout.ensures.sound).3

pub returns-in-Dict : goal.returns-in-Dict
returns-in-Dict c =
    let same = sym c.layout.ensures.layout ∙ ap layout_of c.in-Dict.is in
    subst (λ a. IfOk c.dictionary_operand.result (λ found. IfSome found (λ operand. operand_rows operand (len_of a) ≡ rows_of a))) (sym same)
    (c.dictionary_operand.ensures c.in-Dict.field-2)
