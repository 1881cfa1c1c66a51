use Rattle.std.proofs.Common.{arith}
use Rattle.vortex_arrays_rebuild.proofs.ItemLemmas.{put_none, put_more, put_all}
use Rattle.vortex_arrays_rebuild.proofs.items.put_bits.Goals as goal

pub loop-j-init : goal.loop-j-init
loop-j-init c = put_none c.args.copied.now.items c.args.bits.now c.args.at c.args.run.start

pub loop-j-preserved : goal.loop-j-preserved
loop-j-preserved c = put_more c.args.copied.now.items c.args.bits.now c.loop-j.copied.items c.args.at c.args.run.start c.loop-j.j c.args.run.len c.value.result c.requires.room c.loop-j-test.true c.requires.within c.value.ensures c.loop-j.invariant

pub returns-clause-front : goal.returns-clause-front
returns-clause-front c = put_all c.args.copied.now.items c.args.bits.now c.loop-j.copied.items c.args.at c.args.run.start c.loop-j.j c.args.run.len (omega arith) c.loop-j.invariant
