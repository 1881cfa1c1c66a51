use Rattle.std.proofs.Common.{◌≡◌, ◌∙◌, ap, sym, map}
use Rattle.std.specs.List.{range_with_len}
use Rattle.vortex_model.specs.LogicalType.{boolean_type, non_nullable}
use Rattle.vortex_arrays_model.specs.Layout.{bools, by_array, array_type_of, len_of, is_valid}
use Rattle.vortex_arrays_core.specs.LayoutOf.{layout_of, valid_of}
use Rattle.vortex_stats_select.proofs.ValidityLemmas.{packed}
use Rattle.vortex_stats_select.proofs.validity.shared_truths.Goals as goal

pub returns-in_ok-truths-in-Bool : goal.returns-in_ok-truths-in-Bool
returns-in_ok-truths-in-Bool c =
    let bits = c.in-Bool.bits in let v = valid_of c.in-Bool.field-1 in
    let same : c.args.rows.now ≡ bools bits v = sym c.layout.ensures.layout ∙ ap layout_of c.in-Bool.is in
    let kind : array_type_of (bools bits v) ≡ boolean_type non_nullable = ap array_type_of (sym same) ∙ c.requires.2 in
    c.in_ok-truths-in-Bool.ensures.cases ∙ packed bits v kind
    ∙ (λ i. map (is_valid (by_array (sym same i))) (range_with_len 0 (len_of (sym same i))))
