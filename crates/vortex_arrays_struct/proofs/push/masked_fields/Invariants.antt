use Rattle.vortex_arrays_core.specs.LayoutOf.{valid_of}
use Rattle.vortex_arrays_struct.proofs.PushedLemmas.{AreFirstMasked}
use Rattle.vortex_arrays_struct.proofs.push.masked_fields.Given as goal

abbrev pub invariant-loop-field : goal.invariant-loop-field
invariant-loop-field l = AreFirstMasked (valid_of l.validity) l.fields l.masked.items l.field-index
