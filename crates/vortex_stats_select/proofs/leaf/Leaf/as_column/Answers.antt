use Rattle.std.proofs.Common.{rules, ◌≡◌, subst, sym}
use Rattle.std.proofs.Math.Logic.{∥∥₁_map}
use Rattle.vortex_stats_mask.specs.Valid.{valid_in}
use Rattle.vortex_stats_select.specs.Headed.{IsHeaded}
use Rattle.vortex_stats_select.proofs.leaf.Leaf.as_column.Goals.{in-Some, in-None}
use Rattle.vortex_stats_select.proofs.leaf.Leaf.as_column.Goals as goal

pub invariant_of-result : goal.invariant_of-result
invariant_of-result c =
    let leaf = c.args.self.now in
    let same : valid_in c.match-self.validity ≡ leaf.validity = elim c.match-self.branch [ in-Some w ↦ search rules | in-None w ↦ search rules ] in
    record {
      headed = ∥∥₁_map leaf.headed (λ h. c.as_items.ensures.headed (valid_in c.match-self.validity) (subst (IsHeaded leaf.items) (sym same) h));
    }
