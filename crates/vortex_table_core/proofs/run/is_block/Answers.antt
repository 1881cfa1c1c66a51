use Rattle.std.proofs.Common.{arith}
use Rattle.vortex_table_core.proofs.Truths.{block_seen}
use Rattle.vortex_table_core.proofs.run.is_block.Goals as goal

pub returns : goal.returns
returns c = block_seen c.args.truths.now c.args.from c.contains.result (omega (arith, c.if-truths-from-lt64.false)) c.contains.ensures.value
