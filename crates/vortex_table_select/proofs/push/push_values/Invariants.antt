use Rattle.std.proofs.Common.{◌≡◌, length, map, take}
use Rattle.vortex_table_select.specs.Lists.{with_each, lists_of}
use Rattle.vortex_table_select.proofs.push.push_values.Given as goal

abbrev pub invariant-loop-k : goal.invariant-loop-k
invariant-loop-k g l = record {
  many : length l.lists ≡ length l.rows;
  pushed : lists_of l.lists ≡ with_each (lists_of l.fn.lists) (map (g.V.Values.raw_at l.values) (take l.k l.rows));
}
