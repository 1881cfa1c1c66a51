use Rattle.std.proofs.Common.{◌∙◌, sym, map}
use Rattle.std.specs.List.{range_with_len}
use Rattle.vortex_arrays_model.specs.Layout.{is_valid}
use Rattle.vortex_arrays_core.specs.LayoutOf.{valid_of}
use Rattle.vortex_stats_select.proofs.ValidityLemmas.{none_valid}
use Rattle.vortex_stats_select.proofs.validity.valid_rows_of.Goals as goal

pub returns-in_ok-rows-in-AllInvalid : goal.returns-in_ok-rows-in-AllInvalid
returns-in_ok-rows-in-AllInvalid c =
    c.in_ok-rows-in-AllInvalid.ensures ∙ none_valid c.args.len
    ∙ (λ i. map (is_valid (valid_of (sym c.in-AllInvalid.is i))) (range_with_len 0 c.args.len))
