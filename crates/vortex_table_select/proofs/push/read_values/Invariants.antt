use Rattle.std.proofs.Common.{◌≡◌, map, take}
use Rattle.vortex_scalar_value.specs.View.{raw_in}
use Rattle.vortex_table_select.proofs.push.read_values.Given as goal

abbrev pub invariant-loop-k : goal.invariant-loop-k
invariant-loop-k g l = map raw_in l.read.items ≡ map (g.V.Values.raw_at l.values) (take l.k l.rows)
