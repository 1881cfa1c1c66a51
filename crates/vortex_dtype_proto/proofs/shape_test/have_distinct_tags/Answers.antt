use Rattle.std.proofs.Common.{arith, sym}
use Rattle.vortex_dtype_proto.proofs.Shapings.{repeats, stays_distinct, all_distinct}
use Rattle.vortex_dtype_proto.proofs.shape_test.have_distinct_tags.Goals as goal

pub returns : goal.returns
returns c = all_distinct c.args.variants.now c.loop-i.i (omega arith) c.loop-i.invariant
