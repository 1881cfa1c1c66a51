use Rattle.std.proofs.Common.{◌∙◌, arith}
use Rattle.vortex_table_io.proofs.Places.{within_of, item_of}
use Rattle.vortex_table_io.proofs.block_list.item_in.Goals as goal

pub index-requires : goal.index-requires
index-requires g c =
    let at = c.locate-position in let b = c.index-blocks-position.result in
    let inside = within_of c.args.blocks.now at.result.block at.result.offset c.args.index b at.ensures.item c.index-blocks-position.is in
    let same = b.ok.0 in omega (arith, inside, same)

pub returns : goal.returns
returns g c =
    let at = c.locate-position in
    c.index.ensures ∙ item_of c.args.blocks.now at.result.block at.result.offset c.args.index c.index-blocks-position.result c.index.result.now at.ensures.item c.index-blocks-position.is
