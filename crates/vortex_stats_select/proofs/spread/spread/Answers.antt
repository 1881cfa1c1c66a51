use Rattle.std.proofs.Common.{◌∙◌, sym, ap, refl}
use Rattle.vortex_stats_mask.specs.Columns.{contents_of, kept}
use Rattle.vortex_stats_mask.specs.Valid.{valid_in}
use Rattle.vortex_stats_mask.proofs.Shown.{tested_as_shown}
use Rattle.vortex_stats_select.specs.Coded.{is_marked}
use Rattle.vortex_stats_select.proofs.spread.spread.Goals as goal

pub returns : goal.returns
returns c =
    let codes = c.args.codes.now in let marks = is_marked c.args.mask.now in
    c.keep_valid.ensures ∙ ap (kept (valid_in codes.validity)) c.in_ok-rows.ensures
    ∙ sym (tested_as_shown marks refl (valid_in codes.validity) (contents_of codes.items))
