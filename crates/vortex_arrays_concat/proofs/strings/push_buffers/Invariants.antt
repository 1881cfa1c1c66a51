use Rattle.std.proofs.Common.{◌≡◌, ◌++◌, take}
use Rattle.vortex_arrays_concat.proofs.strings.push_buffers.Given as goal

abbrev pub invariant-loop-buffer : goal.invariant-loop-buffer
invariant-loop-buffer l = l.buffers.items ≡ l.fn.buffers.items ++ take l.buffer-index l.own
