use Rattle.std.proofs.Common.{sym, subst, arith}
use Rattle.vortex_table_zonemaps.specs.Zones.{IsLeaf}
use Rattle.vortex_table_zonemaps.proofs.zone_maps.ZoneMaps.leaf.Goals as goal

pub returns : goal.returns
returns c = λ zones are.
    let j = c.args.index in let held = c.index.result.now in
    let len = c.len.ensures in let same = c.args.self.now.leaves.ok.0 in let less = c.if-index-len.false in
    subst (λ x. IsLeaf j x zones) (sym c.index.ensures) (are.leaves j held (omega (arith, len, same, less)))
