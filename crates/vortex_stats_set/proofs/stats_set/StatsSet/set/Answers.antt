use Rattle.std.proofs.Common.{rules}
use Rattle.vortex_stats_set.proofs.Lists.{nowhere}
use Rattle.vortex_stats_set.proofs.stats_set.StatsSet.set.Goals as goal

pub returns-in_err-push-in-None-clause-in_place : goal.returns-in_err-push-in-None-clause-in_place
returns-in_err-push-in-None-clause-in_place c = λ h. absurd (nowhere c.args.self.now c.args.stat (search rules) h)
