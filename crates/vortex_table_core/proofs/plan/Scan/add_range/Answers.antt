use Rattle.std.proofs.Common.{◌≡◌, sym, ap, subst, ◌∙◌, length, map, true, arith}
use Rattle.std.specs.List.{list_all}
use Rattle.std.proofs.lemmas.List.{length-take}
use Rattle.vortex_model_table.specs.Table.{bound_length}
use Rattle.vortex_table_chunk.specs.Chunk.{chunk_rows}
use Rattle.vortex_table_chunk.specs.Formed.{is_formed}
use Rattle.vortex_table_core.specs.Plan.{table_in, question_in, answer_by, falsified_in}
use Rattle.vortex_table_core.specs.Progress.{outcome_to, with_chunks}
use Rattle.vortex_table_core.proofs.Groups.{formed_among}
use Rattle.vortex_table_core.proofs.plan.Scan.add_range.Goals as goal

pub add_chunks-requires-clause-formed : goal.add_chunks-requires-clause-formed
add_chunks-requires-clause-formed c =
    let plan = c.args.self.now in let t = table_in plan in
    subst (λ cs. list_all (is_formed (bound_length t) t.kind) cs ≡ true) (sym c.chunks_in-chunks.ensures)
    (formed_among (is_formed (bound_length t) t.kind) c.args.first c.args.count plan.table.now.chunks.items plan.table.now.formed)

pub returns-clause-found : goal.returns-clause-found
returns-clause-found c =
    let q = question_in c.args.self.now in
    c.in_ok-add_chunks.ensures.found
    ∙ ap (λ cs. with_chunks q (outcome_to q) c.args.first (map chunk_rows cs) (answer_by c.args.self.now c.args.answer.now)) c.chunks_in-chunks.ensures
