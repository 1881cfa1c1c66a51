use Rattle.std.proofs.Common.{rules, not, ◌∙◌, ap}
use Rattle.vortex_stats_set.specs.Sets.{is_of, without}
use Rattle.vortex_stats_set.proofs.Lists.{kept_is_set, retained}
use Rattle.vortex_stats_set.proofs.stats_set.StatsSet.clear.Goals as goal

pub invariant_of-self : goal.invariant_of-self
invariant_of-self c = (kept_is_set (λ e. not (is_of c.args.stat e)) c.self.inside.values.items c.retain.new.self.items (retained _ _ _ (λ x b f' y k. search rules) _ _ c.retain.ensures.filtered) c.self.invariant.0, search rules)

pub returns : goal.returns
returns c = retained _ (λ e. not (is_of c.args.stat e)) _ (λ x b f' y k. search rules) _ _ c.retain.ensures.filtered ∙ ap (λ xs. without xs c.args.stat) (search rules)
