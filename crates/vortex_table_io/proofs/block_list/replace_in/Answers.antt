use Rattle.std.proofs.Common.{refl, get_or, arith}
use Rattle.std.proofs.lemmas.List.{get_or_default}
use Rattle.vortex_table_io.proofs.Places.{within_of, replaced}
use Rattle.vortex_table_io.proofs.block_list.replace_in.Goals as goal

pub index_mut-requires : goal.index_mut-requires
index_mut-requires g c =
    let at = c.locate-position in let b = get_or c.args.blocks.now at.result.block c.index-blocks-position.result in
    let is = get_or_default c.args.blocks.now at.result.block c.index-blocks-position.result b at.ensures.block in
    let inside = within_of c.args.blocks.now at.result.block at.result.offset c.args.index b at.ensures.item is in
    let same = b.ok.0 in omega (arith, inside, same)

pub returns : goal.returns
returns g c =
    let at = c.locate-position in let b = get_or c.args.blocks.now at.result.block c.index-blocks-position.result in
    let is = get_or_default c.args.blocks.now at.result.block c.index-blocks-position.result b at.ensures.block in
    replaced c.args.blocks.now at.result.block at.result.offset c.args.index b _ c.args.item at.ensures.item is refl
