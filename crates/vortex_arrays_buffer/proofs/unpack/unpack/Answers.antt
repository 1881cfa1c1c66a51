use Rattle.std.proofs.Common.{◌+◌, ◌-◌, ◌*◌, ◌/◌, arith}
use Rattle.vortex_arrays_buffer.proofs.ByteLemmas.{added_in_turn}
use Rattle.vortex_arrays_buffer.proofs.unpack.unpack.Goals as goal

pub returns : goal.returns
returns c =
    added_in_turn c.args.bytes.now c.args.start (8 * c.div_ceil-first.result) (16 * ((c.args.end / 8 - c.div_ceil-first.result) / 2)) (8 * (c.div_ceil-first.result + 2 * ((c.args.end / 8 - c.div_ceil-first.result) / 2))) c.args.end
    c.in_ok-bits.bits.items c.push_bits.new.bits.items c.push_pairs.new.bits.items c.push_bits-2.new.bits.items
    (omega arith) (omega arith) (omega arith) c.in_ok-bits.ensures.items c.in_ok-push_bits.ensures c.in_ok-push_pairs.ensures c.in_ok-push_bits-2.ensures
