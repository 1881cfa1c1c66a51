use Rattle.vortex_arrays_rebuild.proofs.TrimLemmas.{lowered_all}
use Rattle.vortex_arrays_rebuild.proofs.trim.lower.Goals as goal

pub returns-clause-made : goal.returns-clause-made
returns-clause-made g c = lowered_all g.T.Sealed.integer g.T.Sealed.kind _ _ _ c.in_ok-lowered.lowered.items c.args.starts.now c.args.by c.in_ok-array.array c.into_array.result c.into_array.ensures.array c.in_ok-array.ensures.made c.in_ok-array.ensures.sound c.from_buffer-items.ensures.kind c.from_buffer-items.ensures.numbers c.in_ok-from_vec.ensures c.in_ok-lowered.ensures
