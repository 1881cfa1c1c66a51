use Rattle.std.proofs.Common.{pos, map, get_or, sym, ap, ◌∙◌}
use Rattle.vortex_arrays_buffer.specs.PrimitiveBuffers.{integers_of}
use Rattle.vortex_arrays_buffer.proofs.NumberLemmas.{integers_read, naturals_read}
use Rattle.vortex_arrays_buffer.proofs.primitive_buffer.PrimitiveBuffer.gather.Goals as goal

pub returns-in_ok-gather-in-U8-clause-numbers : goal.returns-in_ok-gather-in-U8-clause-numbers
returns-in_ok-gather-in-U8-clause-numbers c = naturals_read c.in-U8.items c.in_ok-gather-in-U8.field-0 c.args.places.now c.in_ok-gather-in-U8.ensures ∙ ap (λ n. map (λ i. get_or (integers_of n) i (pos 0)) c.args.places.now) (sym c.in-U8.is)

pub returns-in_ok-gather-in-U16-clause-numbers : goal.returns-in_ok-gather-in-U16-clause-numbers
returns-in_ok-gather-in-U16-clause-numbers c = naturals_read c.in-U16.items c.in_ok-gather-in-U16.field-0 c.args.places.now c.in_ok-gather-in-U16.ensures ∙ ap (λ n. map (λ i. get_or (integers_of n) i (pos 0)) c.args.places.now) (sym c.in-U16.is)

pub returns-in_ok-gather-in-U32-clause-numbers : goal.returns-in_ok-gather-in-U32-clause-numbers
returns-in_ok-gather-in-U32-clause-numbers c = naturals_read c.in-U32.items c.in_ok-gather-in-U32.field-0 c.args.places.now c.in_ok-gather-in-U32.ensures ∙ ap (λ n. map (λ i. get_or (integers_of n) i (pos 0)) c.args.places.now) (sym c.in-U32.is)

pub returns-in_ok-gather-in-U64-clause-numbers : goal.returns-in_ok-gather-in-U64-clause-numbers
returns-in_ok-gather-in-U64-clause-numbers c = naturals_read c.in-U64.items c.in_ok-gather-in-U64.field-0 c.args.places.now c.in_ok-gather-in-U64.ensures ∙ ap (λ n. map (λ i. get_or (integers_of n) i (pos 0)) c.args.places.now) (sym c.in-U64.is)

pub returns-in_ok-gather-in-I8-clause-numbers : goal.returns-in_ok-gather-in-I8-clause-numbers
returns-in_ok-gather-in-I8-clause-numbers c = integers_read c.in-I8.items c.in_ok-gather-in-I8.field-0 c.args.places.now c.in_ok-gather-in-I8.ensures ∙ ap (λ n. map (λ i. get_or (integers_of n) i (pos 0)) c.args.places.now) (sym c.in-I8.is)

pub returns-in_ok-gather-in-I16-clause-numbers : goal.returns-in_ok-gather-in-I16-clause-numbers
returns-in_ok-gather-in-I16-clause-numbers c = integers_read c.in-I16.items c.in_ok-gather-in-I16.field-0 c.args.places.now c.in_ok-gather-in-I16.ensures ∙ ap (λ n. map (λ i. get_or (integers_of n) i (pos 0)) c.args.places.now) (sym c.in-I16.is)

pub returns-in_ok-gather-in-I32-clause-numbers : goal.returns-in_ok-gather-in-I32-clause-numbers
returns-in_ok-gather-in-I32-clause-numbers c = integers_read c.in-I32.items c.in_ok-gather-in-I32.field-0 c.args.places.now c.in_ok-gather-in-I32.ensures ∙ ap (λ n. map (λ i. get_or (integers_of n) i (pos 0)) c.args.places.now) (sym c.in-I32.is)

pub returns-in_ok-gather-in-I64-clause-numbers : goal.returns-in_ok-gather-in-I64-clause-numbers
returns-in_ok-gather-in-I64-clause-numbers c = integers_read c.in-I64.items c.in_ok-gather-in-I64.field-0 c.args.places.now c.in_ok-gather-in-I64.ensures ∙ ap (λ n. map (λ i. get_or (integers_of n) i (pos 0)) c.args.places.now) (sym c.in-I64.is)
