use Rattle.std.proofs.Common.{sym, ◌∙◌, map}
use Rattle.std.specs.List.{zip}
use Rattle.std.specs.Ordering.{int_cmp}
use Rattle.std.proofs.lemmas.Result.{IfOk-weaker}
use Rattle.vortex_model_table.specs.Truth.{test_of}
use Rattle.vortex_stats_expr.specs.Tree.{comparison_of}
use Rattle.vortex_stats_mask.specs.Integers.{integers_in}
use Rattle.vortex_stats_mask.proofs.SideBySide.{naturals_paired}
use Rattle.vortex_stats_mask.proofs.pairs.pair_numbers.Goals as goal

pub returns-in-U8-U8 : goal.returns-in-U8-U8
returns-in-U8-U8 c =
    let op = comparison_of c.args.comparison in
    IfOk-weaker c.compare_each.result _ _ (λ mask is. is ∙ sym (naturals_paired op c.in-U8-U8.xs.now c.in-U8-U8.ys.now) ∙ (λ i. map (λ p. test_of op (int_cmp p.0 p.1)) (zip (integers_in (sym c.in-U8-U8.is-0 i)) (integers_in (sym c.in-U8-U8.is-1 i))))) c.compare_each.ensures

pub returns-in-U16-U16 : goal.returns-in-U16-U16
returns-in-U16-U16 c =
    let op = comparison_of c.args.comparison in
    IfOk-weaker c.compare_each-in-U16-U16.result _ _ (λ mask is. is ∙ sym (naturals_paired op c.in-U16-U16.xs.now c.in-U16-U16.ys.now) ∙ (λ i. map (λ p. test_of op (int_cmp p.0 p.1)) (zip (integers_in (sym c.in-U16-U16.is-0 i)) (integers_in (sym c.in-U16-U16.is-1 i))))) c.compare_each-in-U16-U16.ensures

pub returns-in-U32-U32 : goal.returns-in-U32-U32
returns-in-U32-U32 c =
    let op = comparison_of c.args.comparison in
    IfOk-weaker c.compare_each-in-U32-U32.result _ _ (λ mask is. is ∙ sym (naturals_paired op c.in-U32-U32.xs.now c.in-U32-U32.ys.now) ∙ (λ i. map (λ p. test_of op (int_cmp p.0 p.1)) (zip (integers_in (sym c.in-U32-U32.is-0 i)) (integers_in (sym c.in-U32-U32.is-1 i))))) c.compare_each-in-U32-U32.ensures

pub returns-in-U64-U64 : goal.returns-in-U64-U64
returns-in-U64-U64 c =
    let op = comparison_of c.args.comparison in
    IfOk-weaker c.compare_each-in-U64-U64.result _ _ (λ mask is. is ∙ sym (naturals_paired op c.in-U64-U64.xs.now c.in-U64-U64.ys.now) ∙ (λ i. map (λ p. test_of op (int_cmp p.0 p.1)) (zip (integers_in (sym c.in-U64-U64.is-0 i)) (integers_in (sym c.in-U64-U64.is-1 i))))) c.compare_each-in-U64-U64.ensures

pub returns-in-I8-I8 : goal.returns-in-I8-I8
returns-in-I8-I8 c =
    let op = comparison_of c.args.comparison in
    IfOk-weaker c.compare_each-in-I8-I8.result _ _ (λ mask is. is ∙ (λ i. map (λ p. test_of op (int_cmp p.0 p.1)) (zip (integers_in (sym c.in-I8-I8.is-0 i)) (integers_in (sym c.in-I8-I8.is-1 i))))) c.compare_each-in-I8-I8.ensures

pub returns-in-I16-I16 : goal.returns-in-I16-I16
returns-in-I16-I16 c =
    let op = comparison_of c.args.comparison in
    IfOk-weaker c.compare_each-in-I16-I16.result _ _ (λ mask is. is ∙ (λ i. map (λ p. test_of op (int_cmp p.0 p.1)) (zip (integers_in (sym c.in-I16-I16.is-0 i)) (integers_in (sym c.in-I16-I16.is-1 i))))) c.compare_each-in-I16-I16.ensures

pub returns-in-I32-I32 : goal.returns-in-I32-I32
returns-in-I32-I32 c =
    let op = comparison_of c.args.comparison in
    IfOk-weaker c.compare_each-in-I32-I32.result _ _ (λ mask is. is ∙ (λ i. map (λ p. test_of op (int_cmp p.0 p.1)) (zip (integers_in (sym c.in-I32-I32.is-0 i)) (integers_in (sym c.in-I32-I32.is-1 i))))) c.compare_each-in-I32-I32.ensures

pub returns-in-I64-I64 : goal.returns-in-I64-I64
returns-in-I64-I64 c =
    let op = comparison_of c.args.comparison in
    IfOk-weaker c.compare_each-in-I64-I64.result _ _ (λ mask is. is ∙ (λ i. map (λ p. test_of op (int_cmp p.0 p.1)) (zip (integers_in (sym c.in-I64-I64.is-0 i)) (integers_in (sym c.in-I64-I64.is-1 i))))) c.compare_each-in-I64-I64.ensures
