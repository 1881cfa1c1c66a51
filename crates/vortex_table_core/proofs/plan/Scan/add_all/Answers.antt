use Rattle.std.proofs.Common.{◌≡◌, length, arith}
use Rattle.vortex_table_core.specs.Plan.{question_in, answer_by}
use Rattle.vortex_table_core.proofs.Ranges.{all_alone, none_counted}
use Rattle.vortex_table_core.proofs.plan.Scan.add_all.Goals as goal

pub add_range-requires-clause-counted : goal.add_range-requires-clause-counted
add_range-requires-clause-counted c = none_counted (question_in c.args.self.now) (answer_by c.args.self.now c.args.answer.now) c.requires.none

pub returns-then-len-chunks-clause-found : goal.returns-then-len-chunks-clause-found
returns-then-len-chunks-clause-found c =
    let plan = c.args.self.now in let held = plan.table.now.chunks.ok.0 in
    let groups = c.len.ensures in let chunks = c.len-chunks.ensures in let same = c.if-len-chunks.true in
    let counts : c.len-chunks.result ≡ length plan.table.now.chunks.items = omega (arith, chunks, held) in
    let alone : length plan.table.now.groups ≡ length plan.table.now.chunks.items = omega (arith, groups, same, counts) in
    all_alone plan c.requires.plan (answer_by plan c.args.answer.now) c.requires.none alone _ c.len-chunks.result counts c.in_ok-add_range.ensures.found
