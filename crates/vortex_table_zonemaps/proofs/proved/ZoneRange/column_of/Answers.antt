use Rattle.std.proofs.Common.{◌≡◌, ◌∙◌, map}
use Rattle.std.proofs.lemmas.Option.{IfSome_then}
use Rattle.vortex_table_zonemaps.specs.Stats.{zone_of}
use Rattle.vortex_table_zonemaps.specs.Zone.{stat_in}
use Rattle.vortex_table_zonemaps.proofs.Held.{long_enough, part}
use Rattle.vortex_table_zonemaps.proofs.proved.ZoneRange.column_of.Goals as goal

pub slice-requires : goal.slice-requires
slice-requires c =
    let s = c.args.self.now in let f = stat_in c.args.stat in
    (map f (map zone_of s.chunks.now), c.in_ok-column.ensures (map zone_of s.chunks.now) s.held, long_enough f s.chunks.now s.first s.count s.within)

pub returns : goal.returns
returns c =
    let s = c.args.self.now in let f = stat_in c.args.stat in let zones = map zone_of s.chunks.now in
    IfSome_then c.slice.result (c.slice.ensures (map f zones) (c.in_ok-column.ensures zones s.held) (long_enough f s.chunks.now s.first s.count s.within))
    (λ column is. is ∙ part f s.chunks.now s.first s.count s.within)
