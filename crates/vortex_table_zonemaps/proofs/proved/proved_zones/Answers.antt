use Rattle.std.proofs.Common.{sym, ap, ◌∙◌, map, false}
use Rattle.std.proofs.lemmas.Result.{IfOk-weaker}
use Rattle.std.proofs.lemmas.Simd.{splat_is_map}
use Rattle.vortex_table_zonemaps.specs.Proved.{proved_at}
use Rattle.vortex_table_zonemaps.specs.Stats.{zones_in}
use Rattle.vortex_table_zonemaps.proofs.Binding.{zones_selected}
use Rattle.vortex_table_zonemaps.proofs.Held.{counted}
use Rattle.vortex_table_zonemaps.proofs.proved.proved_zones.Goals as goal

pub returns : goal.returns
returns c =
    let s = c.args.range.now in let zones = zones_in s.chunks.now s.first s.count in
    IfOk-weaker c.select.result _ _ (λ mask is. is ∙ zones_selected c.in-Some.proof zones
    ∙ ap (λ p. map (proved_at p) zones) (sym c.in-Some.is)) c.select.ensures

pub returns-in_default : goal.returns-in_default
returns-in_default c =
    let s = c.args.range.now in let zones = zones_in s.chunks.now s.first s.count in
    IfOk-weaker c.no_rows.result _ _ (λ mask is. is ∙ splat_is_map zones s.count false (counted s.chunks.now s.first s.count s.within)
    ∙ ap (λ p. map (proved_at p) zones) (sym c.in_default.is)) c.no_rows.ensures
