use Rattle.std.proofs.Common.{◌∷◌, [], refl, sym, ap, subst, ◌∙◌}
use Rattle.vortex_model_table.specs.Statistics.{greatest_value}
use Rattle.vortex_model_table.specs.ZoneMap.{bound_among}
use Rattle.vortex_scalar_value.specs.View.{raw_of}
use Rattle.vortex_stats_bound.specs.Precision.{precision_of, precision_map}
use Rattle.vortex_stats_bound.specs.ValueOrder.{value_content, value_order}
use Rattle.vortex_stats_array.specs.Zones.{bound_content}
use Rattle.vortex_table_chunk.specs.zones.Join.{or_absent, BothCompare}
use Rattle.vortex_table_chunk.specs.zones.Typed.{is_said_of}
use Rattle.vortex_table_chunk.proofs.ClonedLemmas.{same_bound}
use Rattle.vortex_table_chunk.proofs.zones.JoinLemmas.{upper_united, union_passes}
use Rattle.vortex_table_chunk.proofs.zones.join.joined_high.Goals as goal

pub returns-clause-bound : goal.returns-clause-bound
returns-clause-bound c = λ compare.
    let p = c.in_ok-left.left in let q = c.in_ok-right.right in
    let left = same_bound c.args.left.now p c.in_ok-left.ensures in let right = same_bound c.args.right.now q c.in_ok-right.ensures in
    ap (precision_map value_content) (c.known_or_absent.ensures ∙ ap or_absent c.upper_union.ensures)
    ∙ upper_united value_content (precision_of p) (precision_of q) (subst (λ x. BothCompare x (bound_content q)) (sym left) (subst (λ y. BothCompare (bound_content c.args.left.now) y) (sym right) compare))
    ∙ (λ i. bound_among greatest_value (left i ∷ right i ∷ []))

pub returns-clause-kind : goal.returns-clause-kind
returns-clause-kind c = λ k h g.
    ap (λ p. is_said_of k (precision_map raw_of p)) (c.known_or_absent.ensures ∙ ap or_absent c.upper_union.ensures)
    ∙ union_passes (λ v w. value_order w v) (λ p. is_said_of k (precision_map raw_of p)) refl (precision_of c.in_ok-left.left) (precision_of c.in_ok-right.right) (ap (is_said_of k) c.in_ok-left.ensures ∙ h)
    (ap (is_said_of k) c.in_ok-right.ensures ∙ g)
