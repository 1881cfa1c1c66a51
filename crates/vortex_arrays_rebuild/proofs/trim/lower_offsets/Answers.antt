use Rattle.std.proofs.Common.{◌≡◌, Some, sym, ap, ◌∙◌}
use Rattle.std.specs.Option.{option_map}
use Rattle.vortex_dtype_ptype.specs.View.{number_kind_of}
use Rattle.vortex_dtype_core.specs.Parts.{numbers_in_type}
use Rattle.vortex_arrays_model.specs.Layout.{array_type_of}
use Rattle.vortex_arrays_rebuild.proofs.TrimLemmas.{offsets_held}
use Rattle.vortex_arrays_rebuild.proofs.trim.lower_offsets.Goals as goal

pub lower_to_kind-requires-clause-held : goal.lower_to_kind-requires-clause-held
lower_to_kind-requires-clause-held c =
    let kind : numbers_in_type (array_type_of c.args.offsets.now) ≡ Some (number_kind_of c.in-Some.ptype) = ap numbers_in_type (sym c.dtype.ensures) ∙ sym c.as_ptype_opt.ensures ∙ ap (option_map number_kind_of) c.in-Some.is in
    rw c.deref.ensures.value (offsets_held c.args.offsets.now (number_kind_of c.in-Some.ptype) c.in_ok-starts.starts.items c.args.bound c.requires.sound c.requires.kind kind c.requires.within c.in_ok-starts.ensures)
