use Rattle.std.proofs.Common.{sym, ◌∙◌}
use Rattle.vortex_arrays_model.specs.Layout.{array_type_of}
use Rattle.vortex_arrays_concat.proofs.ArrayRoom.{left_fits}
use Rattle.vortex_arrays_concat.proofs.room.have_room.Goals as goal

pub returns : goal.returns
returns c = λ yes.
    left_fits (array_type_of c.args.array.now) c.args.array.now c.left_by.result c.len-rows.ensures.sound c.requires c.left_by.ensures (sym c.is_some.ensures ∙ yes)
