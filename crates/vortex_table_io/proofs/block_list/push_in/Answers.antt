use Rattle.std.proofs.Common.{◌-◌, arith}
use Rattle.vortex_table_io.proofs.Places.{on_any, unchanged_in, pushed_last}
use Rattle.vortex_table_io.proofs.block_list.push_in.Goals as goal

pub returns-in_err-push-clause-unchanged : goal.returns-in_err-push-clause-unchanged
returns-in_err-push-clause-unchanged g c =
    let some = c.if-count-gt0.true in let n = c.len-count.ensures in let same = c.args.blocks.now.ok.0 in
    on_any c.from_residual.result
    (unchanged_in c.args.blocks.now.items (c.len-count.result - 1) c.index_mut.result.now c.push.new.self c.index_mut.ensures.value (omega (arith, some, n, same)) c.in_err-push.ensures.items)

pub returns-then-len-lt-BLOCK_LEN-clause-pushed : goal.returns-then-len-lt-BLOCK_LEN-clause-pushed
returns-then-len-lt-BLOCK_LEN-clause-pushed g c =
    let some = c.if-count-gt0.true in let n = c.len-count.ensures in let same = c.args.blocks.now.ok.0 in
    pushed_last c.args.blocks.now.items (c.len-count.result - 1) c.index_mut.result.now c.push.new.self c.args.item c.index_mut.ensures.value (omega (arith, some, n, same)) c.in_ok-push.ensures.items
