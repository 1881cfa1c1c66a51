use Rattle.std.proofs.Common.{rules}
use Rattle.std.proofs.lemmas.List.{get_or_read}
use Rattle.vortex_stats_mask.proofs.RunLemmas.{told_beside}
use Rattle.vortex_stats_mask.proofs.narrow.narrow_to.Goals as goal

pub returns-in-Eq : goal.returns-in-Eq
returns-in-Eq g c = told_beside _ _ _ c.args.xs.now c.retell_rows.ensures.count c.requires (λ i d l. search (rules, c.retell_rows.ensures.rows i l, get_or_read))

pub returns-in-NotEq : goal.returns-in-NotEq
returns-in-NotEq g c = told_beside _ _ _ c.args.xs.now c.retell_rows-in-NotEq.ensures.count c.requires (λ i d l. search (rules, c.retell_rows-in-NotEq.ensures.rows i l, get_or_read))

pub returns-in-Gt : goal.returns-in-Gt
returns-in-Gt g c = told_beside _ _ _ c.args.xs.now c.retell_rows-in-Gt.ensures.count c.requires (λ i d l. search (rules, c.retell_rows-in-Gt.ensures.rows i l, get_or_read))

pub returns-in-Gte : goal.returns-in-Gte
returns-in-Gte g c = told_beside _ _ _ c.args.xs.now c.retell_rows-in-Gte.ensures.count c.requires (λ i d l. search (rules, c.retell_rows-in-Gte.ensures.rows i l, get_or_read))

pub returns-in-Lt : goal.returns-in-Lt
returns-in-Lt g c = told_beside _ _ _ c.args.xs.now c.retell_rows-in-Lt.ensures.count c.requires (λ i d l. search (rules, c.retell_rows-in-Lt.ensures.rows i l, get_or_read))

pub returns-in-Lte : goal.returns-in-Lte
returns-in-Lte g c = told_beside _ _ _ c.args.xs.now c.retell_rows-in-Lte.ensures.count c.requires (λ i d l. search (rules, c.retell_rows-in-Lte.ensures.rows i l, get_or_read))
