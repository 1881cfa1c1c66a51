use Rattle.std.proofs.Common.{rules}
use Rattle.vortex_scalar_builders.proofs.byte_bounds.counted_length.Goals as goal

pub loop-end-init : goal.loop-end-init
loop-end-init c = search rules

pub overflow_sub-end : goal.overflow_sub-end
overflow_sub-end c = search rules

pub returns-else-bytes-end-clause-full : goal.returns-else-bytes-end-clause-full
returns-else-bytes-end-clause-full c = search rules

pub returns-after-loop-end-clause-room : goal.returns-after-loop-end-clause-room
returns-after-loop-end-clause-room c = search rules

pub loop-end-preserved : goal.loop-end-preserved
loop-end-preserved c = search rules

pub returns-after-loop-end-clause-full : goal.returns-after-loop-end-clause-full
returns-after-loop-end-clause-full c = search rules

pub overflow_sub-end-in-loop-end : goal.overflow_sub-end-in-loop-end
overflow_sub-end-in-loop-end c = search rules

pub returns-else-bytes-end-clause-room : goal.returns-else-bytes-end-clause-room
returns-else-bytes-end-clause-room c = search rules

pub returns-after-loop-end-clause-within : goal.returns-after-loop-end-clause-within
returns-after-loop-end-clause-within c = search rules

pub bounds-bytes-end : goal.bounds-bytes-end
bounds-bytes-end c = search rules

pub returns-else-bytes-end-clause-within : goal.returns-else-bytes-end-clause-within
returns-else-bytes-end-clause-within c = search rules

pub loop-end-smaller : goal.loop-end-smaller
loop-end-smaller c = search rules
