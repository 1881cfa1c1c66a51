use Rattle.std.proofs.Common.{rules, ◌≡◌, ◌≢◌, ◌++◌, List, ℕ, Bool, true, false, IsTrue}
use Rattle.vortex_table_io.specs.Lines.{IsOneLine, with_lf}
use Rattle.vortex_table_io.specs.Replies.{memory_text, ok_text}
use Rattle.vortex_table_io.specs.Responses.{response_line}
use Rattle.example_service.specs.View.{state_in}
use Rattle.example_service.proofs.AnswerLemmas.{is_text, is_no_text}
use Rattle.example_service.proofs.Replaying.{taken_ok, taken_refused}
use Rattle.example_service.proofs.service.Service.take_in.Goals as goal

pub returns-then-is_ok-clause-run : goal.returns-then-is_ok-clause-run
returns-then-is_ok-clause-run c =
    let read : c.deref.result.now ≡ c.answer-response.new.out.items = search rules in
    let ok = is_text c.answer-response.result c.deref.result.now c.answer-response.new.out.items ok_text c.is_ok.result read c.is_ok.ensures (search rules) in
    (taken_ok (state_in c.args.self.now) (state_in c.answer-response.new.self) c.args.line.now c.answer-response.result c.answer-response.new.out.items c.answer-response.ensures ok).0

pub returns-then-is_ok-clause-accepted : goal.returns-then-is_ok-clause-accepted
returns-then-is_ok-clause-accepted c =
    let read : c.deref.result.now ≡ c.answer-response.new.out.items = search rules in
    let ok = is_text c.answer-response.result c.deref.result.now c.answer-response.new.out.items ok_text c.is_ok.result read c.is_ok.ensures (search rules) in
    (taken_ok (state_in c.args.self.now) (state_in c.answer-response.new.self) c.args.line.now c.answer-response.result c.answer-response.new.out.items c.answer-response.ensures ok).1

pub returns-else-lacks_memory-clause-refused : goal.returns-else-lacks_memory-clause-refused
returns-else-lacks_memory-clause-refused c =
    let read : c.deref.result.now ≡ c.answer-response.new.out.items = search rules in
    let again : c.deref-else-is_ok.result.now ≡ c.answer-response.new.out.items = search rules in
    let no = is_no_text c.answer-response.result c.deref.result.now c.answer-response.new.out.items ok_text c.is_ok.result read c.is_ok.ensures (search rules) in
    let more = is_no_text c.answer-response.result c.deref-else-is_ok.result.now c.answer-response.new.out.items memory_text c.lacks_memory.result again c.lacks_memory.ensures (search rules) in
    λ _. taken_refused (state_in c.args.self.now) (state_in c.answer-response.new.self) c.args.line.now c.answer-response.result c.answer-response.new.out.items c.answer-response.ensures c.requires no more
