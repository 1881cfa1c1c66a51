use Rattle.std.proofs.Common.{map, take}
use Rattle.vortex_table_schema.specs.Cut.{names_at, IsIndex}
use Rattle.vortex_table_schema.proofs.cut.index_paths.Given as goal

abbrev pub invariant-loop-path : goal.invariant-loop-path
invariant-loop-path l = IsIndex l.index (map names_at (take l.path-index l.paths))
