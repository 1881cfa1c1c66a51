use Rattle.std.proofs.Common.{◌≡◌, take, map}
use Rattle.vortex_table_schema.specs.Cut.{names_at, strip_all}
use Rattle.vortex_table_schema.proofs.cut.strip_all.Given as goal

abbrev pub invariant-loop-path : goal.invariant-loop-path
invariant-loop-path l = map names_at l.left.items ≡ strip_all l.name (map names_at (take l.path-index l.paths))
