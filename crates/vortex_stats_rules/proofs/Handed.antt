-- How many nodes of a tree of comparisons are handed to the rules.
use Rattle.std.proofs.Common.{◌≡◌, refl, length, arith}
use Rattle.std.proofs.lemmas.List.{length-append}
use Rattle.vortex_model_table.specs.Expression.{Expression, compare, both, either}
use Rattle.vortex_model_rules.specs.Rules.{handed_over}
use Rattle.vortex_stats_rules.specs.Visits.{IsOfComparisons, node_count}

pub each_handed_once : (e : Expression) → IsOfComparisons e → length (handed_over e) ≡ node_count e
each_handed_once (compare op x y) h = refl
each_handed_once (both x y) h =
    omega (arith, length-append (handed_over x) (handed_over y), each_handed_once x h.0, each_handed_once y h.1)
each_handed_once (either x y) h =
    omega (arith, length-append (handed_over x) (handed_over y), each_handed_once x h.0, each_handed_once y h.1)
each_handed_once e h = absurd h
