use Rattle.std.proofs.Common.{◌∙◌, arith}
use Rattle.std.proofs.lemmas.List.{length-set}
use Rattle.vortex_arrays_rebuild.proofs.DensityLemmas.{mark_set, covered_all}
use Rattle.vortex_arrays_rebuild.proofs.density.covered.Goals as goal

pub loop-j-preserved : goal.loop-j-preserved
loop-j-preserved c = record {
  front = rw c.max-end.ensures (mark_set c.args.ends.now c.loop-j.j c.loop-j.marks.items c.loop-j.end (omega (arith, c.loop-j.invariant.same)) c.loop-j.invariant.front);
  same = length-set c.loop-j.marks.items c.loop-j.j _ ∙ c.loop-j.invariant.same;
}

pub returns : goal.returns
returns c = covered_all c.args.ends.now c.loop-j.j c.loop-j.marks.items c.loop-j.end c.loop-j.invariant.same (omega arith) c.loop-j.invariant.front
