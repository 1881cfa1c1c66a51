use Rattle.std.proofs.Common.{rules, arith, IsTrue, ◌<◌, ◌≤◌, not, length}
use Rattle.vortex_arrays_parts.proofs.RowLemmas.{held_all, held_at}
use Rattle.vortex_arrays_parts.proofs.check.are_texts.Goals as goal

pub returns-then-not-is_text-clause-other : goal.returns-then-not-is_text-clause-other
returns-then-not-is_text-clause-other c = λ _ h.
    let yes : IsTrue (not c.is_text-is_text.result) = search rules in
    let inside : c.loop-value.value-index < length c.args.values.now = search (rules, arith) in
    c.is_text-is_text.ensures.other yes (held_at c.args.values.now c.loop-value.value-index inside h)

pub returns-clause-held : goal.returns-clause-held
returns-clause-held c = λ _.
    let done : length c.args.values.now ≤ c.loop-value.value-index = search (rules, arith) in
    held_all c.args.values.now c.loop-value.value-index done c.loop-value.invariant
