use Rattle.std.proofs.Common.{rules, ◌∙◌, ap}
use Rattle.vortex_stats_expr.specs.Stats.{number_of_stat}
use Rattle.vortex_stats_expr.specs.Bitsets.{has_number}
use Rattle.vortex_stats_set.specs.Sets.{only}
use Rattle.vortex_stats_set.proofs.Lists.{kept_is_set, retained}
use Rattle.vortex_stats_set.proofs.stats_set.StatsSet.retain_only.Goals as goal

pub invariant_of-self : goal.invariant_of-self
invariant_of-self c = (kept_is_set (λ e. has_number c.args.stats.now (number_of_stat e.0)) c.self.inside.values.items c.retain.new.self.items (retained _ _ _ (λ x b f' y k. search rules) _ _ c.retain.ensures.filtered) c.self.invariant.0, search rules)

pub returns : goal.returns
returns c = retained _ (λ e. has_number c.args.stats.now (number_of_stat e.0)) _ (λ x b f' y k. search rules) _ _ c.retain.ensures.filtered ∙ ap (λ xs. only xs c.args.stats.now) (search rules)
