use Rattle.std.proofs.Common.{IfSome, option_map, refl, sym, ap, subst, ◌∙◌}
use Rattle.vortex_model_table.specs.Expression.{both}
use Rattle.vortex_model_table.specs.Truth.{evaluate, kleene_and}
use Rattle.vortex_stats_expr.specs.Collect.{IsShallow}
use Rattle.vortex_stats_expr.proofs.Collected.{and_assoc, value-collected, shallow-collected}
use Rattle.vortex_stats_expr.proofs.collect.and_collect.Goals as goal

pub returns-clause-tree : goal.returns-clause-tree
returns-clause-tree c = c.in_ok-all.ensures

pub returns-clause-truth : goal.returns-clause-truth
returns-clause-truth c = λ g.
    ap (λ o. option_map (evaluate g) o) c.in_ok-all.ensures
    ∙ value-collected both kleene_and (evaluate g) and_assoc (λ x y. refl) c.args.predicates.items

pub returns-clause-depth : goal.returns-clause-depth
returns-clause-depth c =
    subst (λ o. IfSome o (IsShallow c.args.predicates.items)) (sym c.in_ok-all.ensures)
    (shallow-collected both (λ x y. refl) c.args.predicates.items)
