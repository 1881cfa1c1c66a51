use Rattle.std.proofs.Common.{◌-◌, arith}
use Rattle.vortex_arrays_buffer.proofs.Counts.{none_counted}
use Rattle.vortex_arrays_buffer.proofs.count.count_bits.Goals as goal

pub loop-i-init : goal.loop-i-init
loop-i-init c = record {
  counted = none_counted c.args.bytes.now c.args.start (c.args.start - c.args.start) (omega arith);
  few = omega arith;
}
