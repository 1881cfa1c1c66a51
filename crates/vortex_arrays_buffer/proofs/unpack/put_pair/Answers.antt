use Rattle.std.proofs.Common.{arith}
use Rattle.vortex_arrays_buffer.proofs.ByteLemmas.{put_none, put_more, put_all}
use Rattle.vortex_arrays_buffer.proofs.unpack.put_pair.Goals as goal

pub loop-i-init : goal.loop-i-init
loop-i-init c = put_none c.args.flags.now.items c.sixteen_bits-sixteen.result c.args.at

pub loop-i-preserved : goal.loop-i-preserved
loop-i-preserved c =
    put_more c.args.flags.now.items c.sixteen_bits-sixteen.result c.loop-i.flags.items c.args.at c.loop-i.i c.args.bytes.now c.args.k c.requires.room c.loop-i-test.true c.sixteen_bits-sixteen.ensures c.loop-i.invariant

pub returns-clause-front : goal.returns-clause-front
returns-clause-front c =
    put_all c.args.flags.now.items c.sixteen_bits-sixteen.result c.loop-i.flags.items c.args.at c.loop-i.i c.args.bytes.now c.args.k (omega arith) c.sixteen_bits-sixteen.ensures c.loop-i.invariant
