use Rattle.std.proofs.Common.{◌≡◌, take, map}
use Rattle.vortex_table_schema.specs.Cut.{names_at, paths_of}
use Rattle.vortex_table_schema.proofs.cut.steps_in.Given as goal

abbrev pub invariant-loop-path : goal.invariant-loop-path
invariant-loop-path l = map names_at l.all.items ≡ paths_of (take l.path-index l.paths)
