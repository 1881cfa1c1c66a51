use Rattle.std.proofs.Common.{sym, ap, ◌∙◌}
use Rattle.vortex_arrays_buffer.specs.PrimitiveBuffers.{integers_of}
use Rattle.vortex_arrays_nested.proofs.PairLemmas.{same_offsets}
use Rattle.vortex_arrays_nested.proofs.pairs.numbers_lie_within.Goals as goal

pub returns-in-I8 : goal.returns-in-I8
returns-in-I8 c = same_offsets c.args.count (integers_of c.args.offsets.now) c.as_slice-in-I8.result.now (integers_of c.args.sizes.now) c.items_lie_within-in-I8.result (c.as_slice-in-I8.ensures ∙ ap integers_of (sym c.in-I8.is)) c.items_lie_within-in-I8.ensures

pub returns-in-I16 : goal.returns-in-I16
returns-in-I16 c = same_offsets c.args.count (integers_of c.args.offsets.now) c.as_slice-in-I16.result.now (integers_of c.args.sizes.now) c.items_lie_within-in-I16.result (c.as_slice-in-I16.ensures ∙ ap integers_of (sym c.in-I16.is)) c.items_lie_within-in-I16.ensures

pub returns-in-I32 : goal.returns-in-I32
returns-in-I32 c = same_offsets c.args.count (integers_of c.args.offsets.now) c.as_slice-in-I32.result.now (integers_of c.args.sizes.now) c.items_lie_within-in-I32.result (c.as_slice-in-I32.ensures ∙ ap integers_of (sym c.in-I32.is)) c.items_lie_within-in-I32.ensures

pub returns-in-I64 : goal.returns-in-I64
returns-in-I64 c = same_offsets c.args.count (integers_of c.args.offsets.now) c.as_slice-in-I64.result.now (integers_of c.args.sizes.now) c.items_lie_within-in-I64.result (c.as_slice-in-I64.ensures ∙ ap integers_of (sym c.in-I64.is)) c.items_lie_within-in-I64.ensures
