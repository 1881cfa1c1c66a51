use Rattle.std.proofs.Common.{◌≡◌, ◌+◌, ◌-◌, sym, ap, ◌∙◌, map, take, drop, arith}
use Rattle.std.proofs.lemmas.Result.{IfOk-weaker}
use Rattle.vortex_model.proofs.Lists.{map_twice}
use Rattle.vortex_stats_mask.specs.Wanted.{is_wanted}
use Rattle.vortex_stats_select.specs.Wants.{value_at}
use Rattle.vortex_table_zonemaps.specs.Stats.{Zone, zone_of, zones_in}
use Rattle.vortex_table_zonemaps.specs.Zone.{columns_of}
use Rattle.vortex_table_zonemaps.proofs.proved.ZoneRangeColumns.test_rows.Goals as goal

pub returns : goal.returns
returns c =
    let s = c.args.self.now in
    let truth = λ (zone : Zone). is_wanted c.args.want (value_at c.args.predicate.now (columns_of zone)) in
    let many : s.first + s.count - s.first ≡ s.count = omega arith in
    IfOk-weaker c.test_each.result _ _ (λ mask is. is ∙ ap (λ n. map (λ x. truth (zone_of x)) (take n (drop s.first s.chunks.now))) many
    ∙ sym (map_twice truth zone_of (take s.count (drop s.first s.chunks.now)))
    ∙ sym (map_twice (λ row. is_wanted c.args.want (value_at c.args.predicate.now row)) columns_of (zones_in s.chunks.now s.first s.count))) c.test_each.ensures
