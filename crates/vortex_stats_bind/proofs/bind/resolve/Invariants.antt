use Rattle.std.proofs.Common.{drop}
use Rattle.vortex_dtype_ptype.specs.View.{nullability_of_flag}
use Rattle.vortex_dtype_core.specs.View.{type_of}
use Rattle.vortex_stats_bind.proofs.Columns.{IsAt}
use Rattle.vortex_stats_bind.proofs.bind.resolve.Given as goal

abbrev pub invariant-loop-name : goal.invariant-loop-name
invariant-loop-name l =
    IsAt (type_of l.dtype) l.path (type_of l.part) (nullability_of_flag l.around) l.positions.items (drop l.name-index l.name-items)
