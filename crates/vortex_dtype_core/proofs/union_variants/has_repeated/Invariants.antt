use Rattle.std.proofs.Common.{◌≡◌, drop}
use Rattle.vortex_dtype_core.specs.Parts.{is_distinct}
use Rattle.vortex_dtype_core.proofs.union_variants.has_repeated.Given as goal

abbrev pub invariant-loop-i : goal.invariant-loop-i
invariant-loop-i l = is_distinct (drop l.i l.tags) ≡ is_distinct l.tags
