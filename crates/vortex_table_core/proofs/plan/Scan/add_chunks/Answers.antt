use Rattle.std.proofs.Common.{◌≡◌, sym, ap, subst, ◌∙◌, ◌+◌, ◌-◌, length, false, arith}
use Rattle.std.proofs.lemmas.List.{length-map}
use Rattle.vortex_table_select.specs.Selected.{AreOfType}
use Rattle.vortex_table_chunk.specs.Chunk.{chunk_rows}
use Rattle.vortex_table_core.specs.Plan.{table_in, question_in, answer_by, falsified_by}
use Rattle.vortex_table_core.specs.Progress.{IsCounted, outcome_to}
use Rattle.vortex_table_core.proofs.Groups.{one_ahead, formed_at}
use Rattle.vortex_table_core.proofs.Skipped.{one_counted, run_counted, run_seen}
use Rattle.vortex_table_core.proofs.plan.Scan.add_chunks.Goals as goal

pub add_chunk-requires-clause-formed : goal.add_chunk-requires-clause-formed
add_chunk-requires-clause-formed c = formed_at c.args.self.now c.args.chunks.now c.loop-offset.offset c.index-chunks-offset.result c.requires.formed c.loop-offset-test.true c.index-chunks-offset.is

pub loop-offset-preserved-then-falsified-offset :
    goal.loop-offset-preserved-then-falsified-offset
loop-offset-preserved-then-falsified-offset c =
    let plan = c.args.self.now in let q = question_in plan in let chunks = c.args.chunks.now in let mask = c.args.falsified.now in
    let i = c.loop-offset.offset in let end = c.past_true-end.result in let run = c.past_true-end.ensures in
    let a = answer_by plan c.loop-offset.answer in let old = c.loop-offset.invariant in
    let same : length mask ≡ length chunks = ap length c.requires.falsified ∙ length-map chunks (falsified_by plan) in
    let within = run.within in
    record {
      within = omega (arith, within, same);
      left =
          run_seen plan c.requires.plan c.args.first chunks mask i end c.requires.formed c.requires.falsified run.order run.within run.truths a (answer_by plan c.add_skipped.new.answer) old.counted c.in_ok-add_skipped.ensures.found
          ∙ old.left;
      counted = subst IsCounted (sym c.in_ok-add_skipped.ensures.found) (run_counted q (c.args.first + i) (end - i) a old.counted);
      typed = subst (λ s. AreOfType (table_in plan).kind s.items) (sym c.in_ok-add_skipped.ensures.rows) old.typed;
    }

pub loop-offset-preserved : goal.loop-offset-preserved
loop-offset-preserved c =
    let plan = c.args.self.now in let q = question_in plan in let chunks = c.args.chunks.now in
    let i = c.loop-offset.offset in let chunk = c.index-chunks-offset.result in
    let a = answer_by plan c.loop-offset.answer in let old = c.loop-offset.invariant in
    record {
      within = (let inside = c.loop-offset-test.true in omega (arith, inside));
      left =
          one_ahead plan c.args.first chunks i chunk a (answer_by plan c.add_chunk.new.answer) c.loop-offset-test.true c.index-chunks-offset.is c.in_ok-add_chunk.ensures.found
          ∙ old.left;
      counted = subst IsCounted (sym c.in_ok-add_chunk.ensures.found) (one_counted q (c.args.first + i) (chunk_rows chunk) (outcome_to q (chunk_rows chunk)) a);
      typed = c.in_ok-add_chunk.ensures.typed;
    }
