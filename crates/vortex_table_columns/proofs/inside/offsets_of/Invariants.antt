use Rattle.std.proofs.Common.{◌≡◌, take}
use Rattle.std.specs.List.{sum_by}
use Rattle.vortex_table_columns.specs.Nested.{StandEndToEnd}
use Rattle.vortex_table_columns.proofs.inside.offsets_of.Given as goal

abbrev pub invariant-loop-size : goal.invariant-loop-size
invariant-loop-size l = StandEndToEnd (take l.size-index l.sizes) l.offsets.items × (l.end ≡ sum_by (λ n. n) (take l.size-index l.sizes))
