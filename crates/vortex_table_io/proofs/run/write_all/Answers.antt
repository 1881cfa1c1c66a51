use Rattle.std.proofs.Common.{rules, arith}
use Rattle.std.proofs.lemmas.Grind.{common_steps}
use Rattle.vortex_table_io.specs.declared.call.Call.TheVariants.{Failed}
use Rattle.vortex_table_io.proofs.CallLemmas.{passed-append, passed-some}
use Rattle.vortex_table_io.proofs.run.write_all.Goals as goal

pub split_at-requires : goal.split_at-requires
split_at-requires c κs = search rules

pub loop-rest-smaller : goal.loop-rest-smaller
loop-rest-smaller c = search rules

pub returns-clause-ok : goal.returns-clause-ok
returns-clause-ok c = grind (arith, common_steps)

pub loop-rest-preserved : goal.loop-rest-preserved
loop-rest-preserved g c = record {
  parts = grind (arith, common_steps);
  fine = passed-append _ _ _ c.loop-rest.invariant.fine (passed-some _ _ c.in-Ok.n _ Failed (search rules) c.in-Ok.ensures.call);
}
