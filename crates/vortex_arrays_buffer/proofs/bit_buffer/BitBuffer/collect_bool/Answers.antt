use Rattle.std.proofs.Common.{length, ap, ◌∙◌}
use Rattle.std.proofs.lemmas.Result.{IfOk-weaker}
use Rattle.vortex_arrays_buffer.proofs.BitLemmas.{bit_count}
use Rattle.vortex_arrays_buffer.proofs.Collected.{bit_here}
use Rattle.vortex_arrays_buffer.proofs.bit_buffer.BitBuffer.collect_bool.Goals as goal

pub returns-clause-count : goal.returns-clause-count
returns-clause-count g c = IfOk-weaker c.of_bytes.result _ _ (λ b is. ap length is ∙ bit_count c.in_ok-bytes.bytes.items 0 c.args.len) c.of_bytes.ensures

pub returns-clause-bits : goal.returns-clause-bits
returns-clause-bits g c = IfOk-weaker c.of_bytes.result _ _ (λ b is i l. rw (bit_here c.in_ok-bytes.bytes.items b c.args.len i is l) (c.in_ok-bytes.ensures.bits i l)) c.of_bytes.ensures
