use Rattle.std.proofs.Common.{sym, subst, ◌∙◌, ◌+◌, ◌≤◌, length, map, take, drop}
use Rattle.std.proofs.lemmas.Result.{IfOk-weaker}
use Rattle.std.proofs.lemmas.Simd.{map-map}
use Rattle.vortex_table_zonemaps.specs.Proved.{proved_at}
use Rattle.vortex_table_zonemaps.specs.Stats.{zone_of}
use Rattle.vortex_table_zonemaps.specs.Zones.{AreZoneMaps}
use Rattle.vortex_table_core.proofs.plan.Scan.falsified.Goals as goal

pub invariant_of-range : goal.invariant_of-range
invariant_of-range c =
    let table = c.args.self.now.table.now in record {
      held = subst (λ cs. AreZoneMaps table.zones (map zone_of cs)) (sym c.as_slice.ensures.value) table.zoned;
      within = subst (λ cs. c.args.first + c.args.count ≤ length cs) (sym c.as_slice.ensures.value) c.requires;
    }

pub returns : goal.returns
returns c =
    let plan = c.args.self.now in let table = plan.table.now in
    IfOk-weaker c.proved_zones.result _ _ (λ mask is. is
    ∙ (λ i. map (proved_at plan.falsifier) (map zone_of (take c.args.count (drop c.args.first (c.as_slice.ensures.value i)))))
    ∙ map-map (proved_at plan.falsifier) zone_of (take c.args.count (drop c.args.first table.chunks.items))) c.proved_zones.ensures
