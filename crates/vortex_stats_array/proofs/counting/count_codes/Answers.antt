use Rattle.std.proofs.Common.{◌∙◌, sym, ap, subst}
use Rattle.vortex_arrays_model.specs.Parts.{AreWithin}
use Rattle.vortex_arrays_core.specs.LayoutOf.{layout_of}
use Rattle.vortex_stats_array.proofs.counting.count_codes.Goals as goal

pub count_numbers-requires-clause-within : goal.count_numbers-requires-clause-within
count_numbers-requires-clause-within c = subst (λ a. AreWithin a c.args.value_count) (sym c.layout.ensures.layout ∙ ap layout_of c.in-Primitive.is) c.requires.within
