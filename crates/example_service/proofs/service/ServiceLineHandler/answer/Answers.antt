use Rattle.std.proofs.Common.{rules, length, ◌≡◌, ◌≢◌, ◌++◌, List, ℕ, Bool, true, false, IsTrue}
use Rattle.vortex_table_io.specs.Lines.{IsOneLine, with_lf}
use Rattle.vortex_table_io.specs.Replies.{memory_text, ok_text}
use Rattle.vortex_table_io.specs.Responses.{response_line}
use Rattle.vortex_table_run.specs.State.{table_in}
use Rattle.example_service.specs.Log.{State, state_of}
use Rattle.example_service.specs.View.{state_in}
use Rattle.example_service.proofs.LogLemmas.{taken_back}
use Rattle.example_service.proofs.AnswerLemmas.{is_text, is_no_text}
use Rattle.example_service.proofs.Serving.{served_ok, served_other, replayed_ok, table_other, leads_more, leads_still}
use Rattle.example_service.proofs.service.ServiceLineHandler.answer.Goals as goal

pub invariant_of-self-then-not-is_ok : goal.invariant_of-self-then-not-is_ok
invariant_of-self-then-not-is_ok c =
    let i : IsOneLine c.args.line.now = c.is_one_line.ensures.0 (search rules) in
    let read : c.deref.result.now ≡ c.answer-response.new.out.items = search rules in
    let new : State = state_of (table_in c.answer-response.new.self) c.truncate.new.self.items in
    let end : c.len-end.result ≡ length c.args.self.now.log.items = search rules in
    let more : c.push_line.new.log.items ≡ c.args.self.now.log.items ++ with_lf c.args.line.now = search rules in
    let log : c.truncate.new.self.items ≡ c.args.self.now.log.items =
    taken_back c.len-end.result c.args.self.now.log.items (with_lf c.args.line.now) c.push_line.new.log.items c.truncate.new.self.items end more c.truncate.ensures.items in
    let no = is_no_text c.answer-response.result c.deref.result.now c.answer-response.new.out.items ok_text c.is_ok.result read c.is_ok.ensures (search rules) in
    record { leads = leads_still (state_in c.args.self.now) new c.args.self.now.leads (table_other (state_in c.args.self.now) new c.args.line.now c.answer-response.result c.answer-response.new.out.items i c.answer-response.ensures.says no) log }

pub invariant_of-self-else-not-is_ok : goal.invariant_of-self-else-not-is_ok
invariant_of-self-else-not-is_ok c =
    let i : IsOneLine c.args.line.now = c.is_one_line.ensures.0 (search rules) in
    let read : c.deref.result.now ≡ c.answer-response.new.out.items = search rules in
    let new : State = state_of (table_in c.answer-response.new.self) c.push_line.new.log.items in
    let log : c.push_line.new.log.items ≡ c.args.self.now.log.items ++ with_lf c.args.line.now = search rules in
    let ok = is_text c.answer-response.result c.deref.result.now c.answer-response.new.out.items ok_text c.is_ok.result read c.is_ok.ensures (search rules) in
    record { leads = leads_more new (c.args.self.now.log.items ++ with_lf c.args.line.now) log (replayed_ok (state_in c.args.self.now) new c.args.line.now c.answer-response.result c.answer-response.new.out.items i c.answer-response.ensures.says c.args.self.now.leads ok) }

pub returns-then-not-is_ok : goal.returns-then-not-is_ok
returns-then-not-is_ok c =
    let i : IsOneLine c.args.line.now = c.is_one_line.ensures.0 (search rules) in
    let read : c.deref.result.now ≡ c.answer-response.new.out.items = search rules in
    let new : State = state_of (table_in c.answer-response.new.self) c.truncate.new.self.items in
    let end : c.len-end.result ≡ length c.args.self.now.log.items = search rules in
    let more : c.push_line.new.log.items ≡ c.args.self.now.log.items ++ with_lf c.args.line.now = search rules in
    let log : c.truncate.new.self.items ≡ c.args.self.now.log.items =
    taken_back c.len-end.result c.args.self.now.log.items (with_lf c.args.line.now) c.push_line.new.log.items c.truncate.new.self.items end more c.truncate.ensures.items in
    let no = is_no_text c.answer-response.result c.deref.result.now c.answer-response.new.out.items ok_text c.is_ok.result read c.is_ok.ensures (search rules) in
    served_other (state_in c.args.self.now) new c.args.line.now c.answer-response.result c.answer-response.new.out.items i c.answer-response.ensures.says no log

pub returns-else-not-is_ok : goal.returns-else-not-is_ok
returns-else-not-is_ok c =
    let i : IsOneLine c.args.line.now = c.is_one_line.ensures.0 (search rules) in
    let read : c.deref.result.now ≡ c.answer-response.new.out.items = search rules in
    let new : State = state_of (table_in c.answer-response.new.self) c.push_line.new.log.items in
    let log : c.push_line.new.log.items ≡ c.args.self.now.log.items ++ with_lf c.args.line.now = search rules in
    let ok = is_text c.answer-response.result c.deref.result.now c.answer-response.new.out.items ok_text c.is_ok.result read c.is_ok.ensures (search rules) in
    served_ok (state_in c.args.self.now) new c.args.line.now c.answer-response.result c.answer-response.new.out.items i c.answer-response.ensures.says ok log
