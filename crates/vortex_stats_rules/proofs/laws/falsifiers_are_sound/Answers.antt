use Rattle.vortex_stats_rules.specs.Meanings.{rules_of}
use Rattle.vortex_stats_rules.proofs.Keeping.{all_keep}
use Rattle.vortex_stats_rules.proofs.laws.falsifiers_are_sound.Goals as goal

pub returns : goal.returns
returns g c =
    λ k e p truth formed made. c.falsifiers_with_rules_are_sound.ensures k (rules_of (λ b. (goal.StatsRewriteRule-dyn g (b.vtable, b.value)).meaning b.value) c.args.rules.now) e p
    (all_keep (λ b. (goal.StatsRewriteRule-dyn g (b.vtable, b.value)).meaning b.value) c.args.rules.now k) truth formed made
