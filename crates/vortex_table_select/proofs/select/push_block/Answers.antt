use Rattle.std.proofs.Common.{◌∙◌}
use Rattle.vortex_table_select.proofs.Places.{block_passed}
use Rattle.vortex_table_select.proofs.select.push_block.Goals as goal

pub returns-else-contains : goal.returns-else-contains
returns-else-contains c =
    c.requires.before
    ∙ block_passed c.args.mask.now c.args.from c.args.to c.contains.result c.requires.order c.requires.within c.contains.ensures.value c.if-contains.false
