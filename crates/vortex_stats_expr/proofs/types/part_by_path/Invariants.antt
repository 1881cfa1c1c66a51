use Rattle.std.proofs.Common.{◌≡◌, drop, Some}
use Rattle.vortex_dtype_core.specs.View.{type_of}
use Rattle.vortex_stats_expr.specs.Types.{kind_at, along}
use Rattle.vortex_stats_expr.proofs.types.part_by_path.Given as goal

abbrev pub invariant-loop-name : goal.invariant-loop-name
invariant-loop-name l = along (kind_at l.current) (drop l.name-index l.name-items) ≡ along (Some (type_of l.dtype)) l.path
