use Rattle.std.proofs.Common.{ap, sym, ◌∙◌, ◌+◌, arith}
use Rattle.vortex_table_core.proofs.Truths.{block_fits, block_true, true_on}
use Rattle.vortex_table_core.proofs.run.past_true.Goals as goal

pub loop-at-preserved : goal.loop-at-preserved
loop-at-preserved c =
    let i = c.loop-at.invariant in let bits = c.args.truths.now in let at = c.loop-at.at in
    let fits = block_fits bits at c.is_block.result c.is_block.ensures c.loop-at-test.true in
    let order = i.order in
    record {
      order = omega (arith, order);
      within = omega (arith, fits);
      truths = true_on bits c.args.from at (at + 64) i.truths (block_true bits at c.is_block.result c.is_block.ensures c.loop-at-test.true);
    }
