use Rattle.std.proofs.Common.{◌<◌, map, sym, subst}
use Rattle.std.proofs.lemmas.List.{length-map}
use Rattle.vortex_arrays_nested.proofs.ReachLemmas.{item_number, ends_within}
use Rattle.vortex_arrays_nested.proofs.reach.pair_at.Goals as goal

pub returns-clause-within : goal.returns-clause-within
returns-clause-within g c =
    let os = c.args.offsets.now in
    let ss = c.args.sizes.now in
    ends_within c.args.count g.T.Sealed.kind g.S.Sealed.kind (map g.T.Sealed.integer os) (map g.S.Sealed.integer ss) c.args.i c.natural_of.result c.natural_of-2.result c.requires.views
    (subst (λ n. c.args.i < n) (sym (length-map os g.T.Sealed.integer)) c.requires.offset_within)
    (item_number g.T.Sealed.integer g.T.Sealed.kind os c.args.i c.index-offsets-i.result c.natural_of.result c.requires.offset_within c.index-offsets-i.is c.natural_of.ensures)
    (item_number g.S.Sealed.integer g.S.Sealed.kind ss c.args.i c.index-sizes-i.result c.natural_of-2.result c.requires.size_within c.index-sizes-i.is c.natural_of-2.ensures)
