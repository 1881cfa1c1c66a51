use Rattle.vortex_stats_rules.proofs.Joining.{joined_judged}
use Rattle.vortex_stats_rules.proofs.answers.join_answers.Goals as goal

pub returns-clause-answer : goal.returns-clause-answer
returns-clause-answer g c =
    λ k h p. joined_judged k c.in_ok-proofs.proofs.items c.in_ok-proof.proof _ (c.in_ok-proofs.ensures k h p) c.in_ok-proof.ensures
