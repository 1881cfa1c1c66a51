use Rattle.std.proofs.Common.{sym, ◌∙◌}
use Rattle.vortex_stats_laws.proofs.unions.unite_three_lower.Goals as goal

pub returns-clause-same : goal.returns-clause-same
returns-clause-same g c = λ passes groups p q r.
    c.lower_from_left-left.ensures ∙ c.lower_unions_associate.ensures passes groups _ _ _ p q r ∙ sym c.lower_from_right-right.ensures
