use Rattle.vortex_dtype_core.specs.View.{type_of}
use Rattle.vortex_arrays_concat.proofs.PlainLemmas.{FirstPlain}
use Rattle.vortex_arrays_concat.proofs.plain_parts.plain_parts.Given as goal

abbrev pub invariant-loop-array : goal.invariant-loop-array
invariant-loop-array l = FirstPlain (type_of l.dtype) l.arrays l.array-index l.parts.items
