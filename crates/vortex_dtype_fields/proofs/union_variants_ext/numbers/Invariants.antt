use Rattle.std.proofs.Common.{◌≡◌, ◌++◌, ◌-◌}
use Rattle.vortex_dtype_fields.specs.Records.{numbers_from}
use Rattle.vortex_dtype_fields.proofs.union_variants_ext.numbers.Given as goal

abbrev pub invariant-loop-n : goal.invariant-loop-n
invariant-loop-n l = l.tags.items ++ numbers_from l.n (l.many - l.n) ≡ numbers_from 0 l.many
