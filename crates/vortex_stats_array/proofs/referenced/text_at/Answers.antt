use Rattle.vortex_stats_array.proofs.RowLemmas.{text_held}
use Rattle.vortex_stats_array.proofs.referenced.text_at.Goals as goal

pub new-requires : goal.new-requires
new-requires c =
    text_held c.args.array.now c.args.i c.in_ok-bytes_at.field-0.now c.len-rows.ensures.sound c.requires.within c.requires.kind c.in_ok-bytes_at.ensures
