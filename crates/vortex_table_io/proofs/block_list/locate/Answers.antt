use Rattle.std.proofs.Common.{arith}
use Rattle.vortex_table_io.proofs.Places.{found}
use Rattle.vortex_table_io.proofs.block_list.locate.Goals as goal

pub returns-then-offset-len-clause-item : goal.returns-then-offset-len-clause-item
returns-then-offset-len-clause-item g c =
    let b = c.index-blocks-number.result in let n = c.len.ensures in let same = b.ok.0 in let less = c.if-offset-len.true in
    found c.args.blocks.now c.loop-number.number c.loop-number.offset c.args.index b c.loop-number-test.true c.index-blocks-number.is
    (omega (arith, n, same, less)) c.loop-number.invariant
