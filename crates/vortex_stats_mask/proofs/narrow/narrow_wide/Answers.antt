use Rattle.std.proofs.Common.{rules}
use Rattle.std.proofs.lemmas.List.{get_or_read}
use Rattle.vortex_stats_mask.proofs.RunLemmas.{told_beside}
use Rattle.vortex_stats_mask.proofs.narrow.narrow_wide.Goals as goal

pub returns : goal.returns
returns g c = told_beside _ _ _ c.args.xs.now c.retell_rows.ensures.count c.requires (λ i d l. search (rules, c.retell_rows.ensures.rows i l, get_or_read))
