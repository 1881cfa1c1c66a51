use Rattle.std.proofs.Common.{sym, ap, subst, ◌∙◌, ◌++◌, append-nil}
use Rattle.std.proofs.lemmas.List.{map-append}
use Rattle.vortex_table_chunk.specs.Chunk.{chunk_rows}
use Rattle.vortex_table_schema.specs.Cut.{tree_of, content_cut}
use Rattle.vortex_table_core.specs.Outcome.{outcome_of}
use Rattle.vortex_table_core.specs.Plan.{question_in}
use Rattle.vortex_table_core.specs.Progress.{found_rows}
use Rattle.vortex_table_select.specs.Selected.{rows_in, cut_rows, selected_rows, AreOfType}
use Rattle.vortex_table_core.proofs.Found.{same_type, all_found, some_found}
use Rattle.vortex_table_core.proofs.plan.Scan.find_rows.Goals as goal

pub take_rows-requires : goal.take_rows-requires
take_rows-requires c = record {
  typed =
      subst (λ k. AreOfType k c.args.found.now.items) (sym (same_type c.args.self.now c.requires.plan c.args.chunk.now c.requires.formed)) c.requires.typed;
}

pub select_rows-requires-clause-typed : goal.select_rows-requires-clause-typed
select_rows-requires-clause-typed c =
    subst (λ k. AreOfType k c.args.found.now.items) (sym (same_type c.args.self.now c.requires.plan c.args.chunk.now c.requires.formed)) c.requires.typed

pub returns-in-Skip-clause-rows : goal.returns-in-Skip-clause-rows
returns-in-Skip-clause-rows c =
    let rows = chunk_rows c.args.chunk.now in let before = cut_rows c.args.self.now.prepared.now.cut (rows_in c.args.found.now.items) in
    sym (append-nil before) ∙ ap (λ o. before ++ found_rows (question_in c.args.self.now) (outcome_of o) rows) (sym c.in-Skip.is)

pub returns-in_ok-take_rows-in-TakeAll-clause-rows :
    goal.returns-in_ok-take_rows-in-TakeAll-clause-rows
returns-in_ok-take_rows-in-TakeAll-clause-rows c =
    let rows = chunk_rows c.args.chunk.now in let cut = c.args.self.now.prepared.now.cut in
    let old = rows_in c.args.found.now.items in let before = cut_rows cut old in
    ap (cut_rows cut) c.in_ok-take_rows-in-TakeAll.ensures.rows
    ∙ map-append (content_cut (tree_of cut.projection)) old rows
    ∙ ap (λ xs. before ++ xs) (all_found c.args.self.now c.requires.plan c.args.chunk.now c.requires.formed)
    ∙ ap (λ o. before ++ found_rows (question_in c.args.self.now) (outcome_of o) rows) (sym c.in-TakeAll.is)

pub returns-in_ok-take_rows-in-TakeAll-clause-typed :
    goal.returns-in_ok-take_rows-in-TakeAll-clause-typed
returns-in_ok-take_rows-in-TakeAll-clause-typed c =
    subst (λ k. AreOfType k c.take_rows.new.found.items) (same_type c.args.self.now c.requires.plan c.args.chunk.now c.requires.formed) c.in_ok-take_rows-in-TakeAll.ensures.typed

pub returns-in_ok-select_rows-in-Filter-clause-rows :
    goal.returns-in_ok-select_rows-in-Filter-clause-rows
returns-in_ok-select_rows-in-Filter-clause-rows c =
    let plan = c.args.self.now in let rows = chunk_rows c.args.chunk.now in let cut = plan.prepared.now.cut in
    let old = rows_in c.args.found.now.items in let before = cut_rows cut old in
    ap (cut_rows cut) c.in_ok-select_rows-in-Filter.ensures.rows
    ∙ map-append (content_cut (tree_of cut.projection)) old (selected_rows plan.prepared.now.bound rows)
    ∙ ap (λ xs. before ++ xs) (some_found plan c.requires.plan c.args.chunk.now c.requires.formed)
    ∙ ap (λ o. before ++ found_rows (question_in plan) (outcome_of o) rows) (sym c.in-Filter.is)

pub returns-in_ok-select_rows-in-Filter-clause-typed :
    goal.returns-in_ok-select_rows-in-Filter-clause-typed
returns-in_ok-select_rows-in-Filter-clause-typed c =
    subst (λ k. AreOfType k c.select_rows.new.found.items) (same_type c.args.self.now c.requires.plan c.args.chunk.now c.requires.formed) c.in_ok-select_rows-in-Filter.ensures.typed
