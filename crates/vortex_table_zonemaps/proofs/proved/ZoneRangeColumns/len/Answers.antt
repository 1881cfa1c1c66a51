use Rattle.std.proofs.Common.{sym, ◌∙◌}
use Rattle.std.proofs.lemmas.List.{length-map}
use Rattle.vortex_table_zonemaps.specs.Stats.{zones_in}
use Rattle.vortex_table_zonemaps.specs.Zone.{columns_of}
use Rattle.vortex_table_zonemaps.proofs.Held.{counted}
use Rattle.vortex_table_zonemaps.proofs.proved.ZoneRangeColumns.len.Goals as goal

pub returns : goal.returns
returns c =
    let s = c.args.self.now in
    sym (length-map (zones_in s.chunks.now s.first s.count) columns_of ∙ counted s.chunks.now s.first s.count s.within)
