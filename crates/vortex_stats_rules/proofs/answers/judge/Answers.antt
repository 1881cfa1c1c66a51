use Rattle.vortex_stats_rules.proofs.Judging.{accepted, faulty}
use Rattle.vortex_stats_rules.proofs.answers.judge.Goals as goal

pub returns-then-not-is_usable : goal.returns-then-not-is_usable
returns-then-not-is_usable c = λ k a h. faulty k c.args.answer a c.in-Ok-Some.proof (cc) (cc) h

pub returns-in_ok-proof-in-Ok-Some : goal.returns-in_ok-proof-in-Ok-Some
returns-in_ok-proof-in-Ok-Some c = λ k a h. accepted k c.args.answer a c.in-Ok-Some.proof c.in_ok-proof-in-Ok-Some.proof (cc) c.in_ok-proof-in-Ok-Some.ensures.ok (cc) h
