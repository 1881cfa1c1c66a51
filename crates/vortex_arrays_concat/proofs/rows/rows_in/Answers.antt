use Rattle.std.proofs.Common.{◌<◌, arith}
use Rattle.vortex_arrays_model.specs.Layout.{len_of}
use Rattle.vortex_arrays_concat.proofs.RowLemmas.{placed_more}
use Rattle.vortex_arrays_concat.proofs.rows.rows_in.Goals as goal

pub loop-i-preserved : goal.loop-i-preserved
loop-i-preserved c =
    let l : c.loop-i.i < len_of c.args.array.now = let n = c.len-count.ensures.count in let t = c.loop-i-test.true in omega (arith, n, t) in
    placed_more c.args.array.now c.loop-i.rows.items c.loop-i.i c.in_ok-rows.field-0 c.loop-i.invariant l c.in_ok-rows.ensures.content c.in_ok-rows.ensures.valid
