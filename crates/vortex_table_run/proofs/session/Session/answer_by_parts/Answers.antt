use Rattle.vortex_table_run.proofs.session.Session.answer_by_parts.Goals as goal

pub returns-in-Create-clause-answers : goal.returns-in-Create-clause-answers
returns-in-Create-clause-answers c = rw (c.in-Create.is, ← c.deref.ensures.value) (c.answer_create.ensures.answers c.args.out.now.items)

pub returns-in-Join-clause-answers : goal.returns-in-Join-clause-answers
returns-in-Join-clause-answers c = rw c.in-Join.is (c.answer_join.ensures.answers c.args.out.now.items)

pub returns-in-Append-clause-answers : goal.returns-in-Append-clause-answers
returns-in-Append-clause-answers c = rw c.in-Append.is (c.answer_append.ensures.answers c.args.out.now.items)

pub returns-in-Retype-clause-answers : goal.returns-in-Retype-clause-answers
returns-in-Retype-clause-answers c = rw c.in-Retype.is (c.answer_retype.ensures.answers c.args.out.now.items)

pub returns-in-Compact-clause-answers : goal.returns-in-Compact-clause-answers
returns-in-Compact-clause-answers c = rw c.in-Compact.is (c.answer_compact.ensures.answers c.args.out.now.items)

pub returns-in-AppendArray-clause-answers : goal.returns-in-AppendArray-clause-answers
returns-in-AppendArray-clause-answers c = rw c.in-AppendArray.is (c.answer_append_array.ensures.answers c.args.out.now.items)
