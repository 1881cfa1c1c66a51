use Rattle.std.proofs.Common.{sym, ap, ◌∙◌}
use Rattle.vortex_arrays_buffer.specs.PrimitiveBuffers.{integers_of}
use Rattle.vortex_arrays_buffer.proofs.PlaceLemmas.{same_places}
use Rattle.vortex_arrays_buffer.proofs.primitive_buffer.PrimitiveBuffer.are_within.Goals as goal

pub returns-in-I8 : goal.returns-in-I8
returns-in-I8 c = same_places c.args.count (integers_of c.args.self.now) c.as_slice-in-I8.result.now c.are_within-in-I8.result (c.as_slice-in-I8.ensures ∙ ap integers_of (sym c.in-I8.is)) c.are_within-in-I8.ensures

pub returns-in-I16 : goal.returns-in-I16
returns-in-I16 c = same_places c.args.count (integers_of c.args.self.now) c.as_slice-in-I16.result.now c.are_within-in-I16.result (c.as_slice-in-I16.ensures ∙ ap integers_of (sym c.in-I16.is)) c.are_within-in-I16.ensures

pub returns-in-I32 : goal.returns-in-I32
returns-in-I32 c = same_places c.args.count (integers_of c.args.self.now) c.as_slice-in-I32.result.now c.are_within-in-I32.result (c.as_slice-in-I32.ensures ∙ ap integers_of (sym c.in-I32.is)) c.are_within-in-I32.ensures

pub returns-in-I64 : goal.returns-in-I64
returns-in-I64 c = same_places c.args.count (integers_of c.args.self.now) c.as_slice-in-I64.result.now c.are_within-in-I64.result (c.as_slice-in-I64.ensures ∙ ap integers_of (sym c.in-I64.is)) c.are_within-in-I64.ensures
