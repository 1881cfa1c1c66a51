use Rattle.std.proofs.Common.{◌≡◌, sym, ap, ◌∙◌, not, ◌&&◌, map, length, replicate, take, true, Some}
use Rattle.std.specs.List.{zip}
use Rattle.std.proofs.lemmas.Result.{IfOk-weaker}
use Rattle.vortex_model.specs.Content.{is_null}
use Rattle.vortex_stats_mask.specs.Columns.{contents_of, shown}
use Rattle.vortex_stats_mask.specs.Valid.{valid_in}
use Rattle.vortex_stats_mask.proofs.Kept.{swapped_beside}
use Rattle.vortex_stats_select.proofs.NullLemmas.{items_present, shown_present, cut_by}
use Rattle.vortex_stats_select.proofs.nulls.present_in.Goals as goal

pub returns-in-All : goal.returns-in-All
returns-in-All c =
    let items = c.args.column.now.items in
    IfOk-weaker c.all_rows.result _ _ (λ mask is. is ∙ ap (λ n. replicate n true) c.len.ensures ∙ sym (items_present items)
    ∙ (λ i. map (λ d. not (is_null d)) (shown (valid_in (sym c.in-All.is i)) (contents_of items)))) c.all_rows.ensures

pub returns-in_ok-rows-in-Bits : goal.returns-in_ok-rows-in-Bits
returns-in_ok-rows-in-Bits c =
    let items = c.args.column.now.items in let bits = c.in-Bits.bits.now in
    c.truncate.ensures.items ∙ (λ i. take (c.len-in-Bits.ensures i) (c.in_ok-rows-in-Bits.ensures i)) ∙ cut_by (length (contents_of items)) bits
    ∙ sym (shown_present (Some bits) items) ∙ (λ i. map (λ d. not (is_null d)) (shown (valid_in (sym c.in-Bits.is i)) (contents_of items)))

pub returns-in_ok-rows-in-Flags : goal.returns-in_ok-rows-in-Flags
returns-in_ok-rows-in-Flags c =
    let items = c.args.column.now.items in let flags = c.in-Flags.flags.now in
    c.both_into.ensures ∙ (λ i. map (λ p. p.0 && p.1) (zip ((c.in_ok-rows-in-Flags.ensures ∙ ap (λ n. replicate n true) c.len-in-Flags.ensures) i) flags))
    ∙ swapped_beside (replicate (length (contents_of items)) true) flags
    ∙ sym (shown_present (Some flags) items) ∙ (λ i. map (λ d. not (is_null d)) (shown (valid_in (sym c.in-Flags.is i)) (contents_of items)))
