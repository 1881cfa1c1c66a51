use Rattle.std.proofs.Common.{sym, ◌∙◌}
use Rattle.std.proofs.lemmas.Option.{IfSome_then}
use Rattle.vortex_table_zonemaps.specs.Stats.{zones_in}
use Rattle.vortex_table_zonemaps.proofs.Binding.{stats_at}
use Rattle.vortex_table_zonemaps.proofs.proved.ZoneRangeColumns.leaf.Goals as goal

pub returns : goal.returns
returns c =
    let s = c.args.self.now in let zones = zones_in s.chunks.now s.first s.count in
    IfSome_then c.column_of.result c.column_of.ensures (λ column is. is ∙ stats_at c.args.path.now _ (sym c.stat_at.ensures ∙ c.in_ok-stat_at.was) zones)
