-- The value is answered, so that a wrong one is refused at once.
use Rattle.std.proofs.Common.{rules}
use Rattle.vortex_stats_rules.proofs.joined.either_proof.Goals as goal

pub returns-in_ok-proof-in-Some-Some : goal.returns-in_ok-proof-in-Some-Some
returns-in_ok-proof-in-Some-Some c = search rules
