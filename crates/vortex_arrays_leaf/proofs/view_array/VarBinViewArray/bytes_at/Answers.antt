use Rattle.vortex_arrays_leaf.proofs.Checked.{value_read}
use Rattle.vortex_arrays_leaf.proofs.view_array.VarBinViewArray.bytes_at.Goals as goal

pub bytes-requires-clause-there : goal.bytes-requires-clause-there
bytes-requires-clause-there c =
    (value_read c.args.self.now c.parts.result.0.now c.parts.result.1.now c.args.i c.index-views-i.result
    c.parts.ensures.layout c.parts.ensures.sound
    c.requires.within c.requires.valid c.parts.ensures.views c.parts.ensures.buffers c.index-views-i.is).there

pub bytes-requires-clause-inside : goal.bytes-requires-clause-inside
bytes-requires-clause-inside c =
    (value_read c.args.self.now c.parts.result.0.now c.parts.result.1.now c.args.i c.index-views-i.result
    c.parts.ensures.layout c.parts.ensures.sound
    c.requires.within c.requires.valid c.parts.ensures.views c.parts.ensures.buffers c.index-views-i.is).inside
