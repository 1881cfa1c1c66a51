use Rattle.std.proofs.Common.{rules}
use Rattle.std.proofs.lemmas.List.{get_or_read}
use Rattle.vortex_stats_mask.proofs.RunLemmas.{both_tell, told_all}
use Rattle.vortex_stats_mask.proofs.numbers.compare_long.Goals as goal

pub returns-in-Eq : goal.returns-in-Eq
returns-in-Eq g c = both_tell c.test_rows.result _ _ _ c.test_rows.ensures.count c.test_rows.ensures.rows (λ mask many tells. told_all _ c.args.xs.now mask.items many (λ i d l. search (rules, tells i l, get_or_read)))

pub returns-in-NotEq : goal.returns-in-NotEq
returns-in-NotEq g c = both_tell c.test_rows-in-NotEq.result _ _ _ c.test_rows-in-NotEq.ensures.count c.test_rows-in-NotEq.ensures.rows (λ mask many tells. told_all _ c.args.xs.now mask.items many (λ i d l. search (rules, tells i l, get_or_read)))

pub returns-in-Gt : goal.returns-in-Gt
returns-in-Gt g c = both_tell c.test_rows-in-Gt.result _ _ _ c.test_rows-in-Gt.ensures.count c.test_rows-in-Gt.ensures.rows (λ mask many tells. told_all _ c.args.xs.now mask.items many (λ i d l. search (rules, tells i l, get_or_read)))

pub returns-in-Gte : goal.returns-in-Gte
returns-in-Gte g c = both_tell c.test_rows-in-Gte.result _ _ _ c.test_rows-in-Gte.ensures.count c.test_rows-in-Gte.ensures.rows (λ mask many tells. told_all _ c.args.xs.now mask.items many (λ i d l. search (rules, tells i l, get_or_read)))

pub returns-in-Lt : goal.returns-in-Lt
returns-in-Lt g c = both_tell c.test_rows-in-Lt.result _ _ _ c.test_rows-in-Lt.ensures.count c.test_rows-in-Lt.ensures.rows (λ mask many tells. told_all _ c.args.xs.now mask.items many (λ i d l. search (rules, tells i l, get_or_read)))

pub returns-in-Lte : goal.returns-in-Lte
returns-in-Lte g c = both_tell c.test_rows-in-Lte.result _ _ _ c.test_rows-in-Lte.ensures.count c.test_rows-in-Lte.ensures.rows (λ mask many tells. told_all _ c.args.xs.now mask.items many (λ i d l. search (rules, tells i l, get_or_read)))
