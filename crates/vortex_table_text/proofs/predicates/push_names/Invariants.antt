use Rattle.std.proofs.Common.{◌≡◌, ◌++◌, drop}
use Rattle.vortex_table_text.specs.Predicates.{path_text}
use Rattle.vortex_table_text.proofs.predicates.push_names.Given as goal

-- what is written so far and the JSON of the rest are the JSON of all
abbrev pub invariant-loop-name : goal.invariant-loop-name
invariant-loop-name l = l.out.items ++ path_text (drop l.name-index l.names) ≡ l.fn.out.items ++ path_text l.names
