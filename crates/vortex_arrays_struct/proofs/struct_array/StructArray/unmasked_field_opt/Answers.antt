use Rattle.vortex_arrays_model.specs.Layout.{len_of}
use Rattle.vortex_arrays_core.specs.LayoutOf.{valid_of}
use Rattle.vortex_arrays_struct.proofs.Places.{array_got}
use Rattle.vortex_arrays_struct.proofs.EditLemmas.{got_at}
use Rattle.std.specs.Prelude.{option_copied}
use Rattle.vortex_arrays_struct.proofs.struct_array.StructArray.unmasked_field_opt.Goals as goal

pub returns : goal.returns
returns c =
    array_got c.args.self.now c.parts.result.0.now.value c.parts.result.1.now (len_of c.args.self.now) (valid_of c.parts.result.2.now) c.args.index (option_copied c.get.result) c.parts.ensures.parts
    (got_at c.get.result c.parts.result.1.now c.args.index c.get.ensures.lookup.0 c.get.ensures.lookup.1)
