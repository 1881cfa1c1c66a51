use Rattle.vortex_arrays_buffer.proofs.ByteLemmas.{spread_more}
use Rattle.vortex_arrays_buffer.proofs.unpack.push_pairs.Goals as goal

pub loop-j-preserved : goal.loop-j-preserved
loop-j-preserved c =
    spread_more c.loop-j.flags.items c.put_pair.new.flags.items c.args.bytes.now c.args.first c.args.pairs c.loop-j.j c.put_pair.ensures.front c.put_pair.ensures.same c.loop-j.invariant
