use Rattle.std.proofs.Common.{◌≡◌, drop, map}
use Rattle.vortex_table_schema.specs.Cut.{names_at, ask_for_all}
use Rattle.vortex_table_schema.proofs.cut.ask_for_all.Given as goal

abbrev pub invariant-loop-path : goal.invariant-loop-path
invariant-loop-path l = ask_for_all (map names_at (drop l.path-index l.paths)) ≡ ask_for_all (map names_at l.paths)
