use Rattle.std.proofs.Common.{◌≡◌, ◌≤◌, ◌++◌, true, drop, take}
use Rattle.vortex_table_response.specs.Text.{numbers_text}
use Rattle.vortex_table_response.proofs.values.push_later.Given as goal

-- what is written and gathered so far and the JSON of the rest are the JSON of all
abbrev pub invariant-loop-n : goal.invariant-loop-n
invariant-loop-n l = (l.at ≤ 256) × (l.out.items ++ take l.at l.buf ++ numbers_text true (drop l.n-index l.numbers) ≡ l.fn.out.items ++ numbers_text true l.numbers)
