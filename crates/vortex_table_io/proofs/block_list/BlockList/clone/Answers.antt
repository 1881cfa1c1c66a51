use Rattle.std.proofs.Common.{◌∙◌, subst}
use Rattle.std.specs.List.{AllZip}
use Rattle.vortex_table_io.specs.Blocks.{items_in}
use Rattle.vortex_table_io.proofs.Cloned.{blocks_cloned, blocks_as_long}
use Rattle.vortex_table_io.proofs.block_list.BlockList.clone.Goals as goal

pub invariant_of-result : goal.invariant_of-result
invariant_of-result g c = blocks_as_long g.T.Clone.is_clone c.self.inside.blocks.items c.in_ok-blocks.blocks.items c.in_ok-blocks.ensures.cases.0 ∙ c.self.invariant

pub returns : goal.returns
returns g c =
    let made = blocks_cloned g.T.Clone.is_clone c.self.inside.blocks.items c.in_ok-blocks.blocks.items c.in_ok-blocks.ensures.cases.0 in
    subst (λ xs. AllZip g.T.Clone.is_clone xs (items_in c.in_ok-blocks.blocks.items)) c.self.view_is made
