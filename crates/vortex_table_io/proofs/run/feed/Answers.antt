use Rattle.std.proofs.Common.{◌≡◌, List, ℕ, ◌++◌, ap, ◌∙◌, subst, append-nil}
use Rattle.std.proofs.lemmas.Result.{on_err_weaker}
use Rattle.vortex_table_io.specs.Replies.{FeedOk}
use Rattle.vortex_table_io.proofs.ReplyLemmas.{FeedErr-gathered}
use Rattle.vortex_table_io.proofs.CallLemmas.{err-append}
use Rattle.vortex_table_io.proofs.run.feed.Goals as goal

pub returns-clause-part : goal.returns-clause-part
returns-clause-part g c =
    let old = g.W.Sink.history c.args.writer.now in
    let none : old ++ c.clear.new.self.items ≡ old = ap (λ (x : List ℕ). old ++ x) c.clear.ensures.items ∙ append-nil old in
    let written = g.W.Sink.history c.gather.new.writer ++ c.gather.new.gathered.items in
    let goes = subst (λ (v : List ℕ). FeedOk g.M.LineHandler.answers (g.M.LineHandler.view c.args.handler.now) c.args.buffer.now.line.bytes c.args.piece.now
    c.gather.new.buffer.line.bytes v written (g.M.LineHandler.view c.gather.new.handler)) none c.in_ok-gather.ensures.ok in
    on_err_weaker c.write_all.result (λ part. FeedErr-gathered part.0
    (part.1 ∙ ap (λ (x : List ℕ). g.W.Sink.history c.gather.new.writer ++ x) c.deref.ensures.value) goes) c.write_all.ensures.part

pub returns-clause-err : goal.returns-clause-err
returns-clause-err g c = err-append c.write_all.result _ _ _ c.in_ok-gather.ensures.fine c.write_all.ensures.err
