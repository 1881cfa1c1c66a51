use Rattle.std.proofs.Common.{◌+◌, refl, arith}
use Rattle.vortex_arrays_rebuild.proofs.PlaceLemmas.{put_none, put_more, put_all}
use Rattle.vortex_arrays_rebuild.proofs.runs.put_positions.Goals as goal

pub loop-j-init : goal.loop-j-init
loop-j-init c = put_none c.args.places.now.items c.args.at c.args.run.start

pub loop-j-preserved : goal.loop-j-preserved
loop-j-preserved c = put_more c.args.places.now.items c.loop-j.places.items c.args.at c.args.run.start c.loop-j.j c.args.run.len (c.args.run.start + c.loop-j.j) c.requires.room c.loop-j-test.true refl c.loop-j.invariant

pub returns-clause-front : goal.returns-clause-front
returns-clause-front c = put_all c.args.places.now.items c.loop-j.places.items c.args.at c.args.run.start c.loop-j.j c.args.run.len (omega arith) c.loop-j.invariant
