use Rattle.std.proofs.Common.{◌∙◌, ap, map, ℕ, List}
use Rattle.vortex_stats_mask.specs.Columns.{both_rows}
use Rattle.vortex_stats_match.specs.Fronts.{match_by_head}
use Rattle.vortex_stats_select.proofs.AskedLemmas.{tested_open}
use Rattle.vortex_stats_select.proofs.matches.match_open_views.Goals as goal

pub returns : goal.returns
returns c =
    let f = λ (v : List ℕ). match_by_head c.args.pattern.now v c.args.buffers.now in let xs = c.args.views.now in
    c.keep_matches.ensures ∙ ap (λ rows. both_rows rows (map f xs)) c.in_ok-mask.ensures
    ∙ tested_open c.args.asked.at f c.args.asked.mask.now xs
