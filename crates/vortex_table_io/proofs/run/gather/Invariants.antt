use Rattle.std.proofs.Common.{◌≡◌, ℕ, List, ◌++◌, length}
use Rattle.vortex_model_table.specs.Reply.{Answers}
use Rattle.vortex_table_io.specs.Replies.{FeedOk}
use Rattle.vortex_table_io.specs.declared.call.Call.{Call}
use Rattle.vortex_table_io.specs.Streams.{OnlyPassed}
use Rattle.vortex_table_io.proofs.run.gather.Given as goal

-- the lines before the rest were answered
pub record Fed {S : Type 0} (answers : Answers S (List ℕ)) (old : S) (held piece left rest written_old : List ℕ) (new : S) (written_new : List ℕ) (calls_old calls_new : List Call) : Type 0 where
  pub front : List ℕ
  pub parts : front ++ rest ≡ piece
  pub goes : FeedOk answers old held front left written_old written_new new
  pub fine : OnlyPassed calls_old calls_new

abbrev pub invariant-loop-line : goal.invariant-loop-line
invariant-loop-line g l =
    Fed g.M.LineHandler.answers (g.M.LineHandler.view l.fn.handler) l.fn.buffer.line.bytes l.piece l.buffer.line.bytes l.rest (g.W.Sink.history l.fn.writer ++ l.fn.gathered.items)
    (g.M.LineHandler.view l.handler) (g.W.Sink.history l.writer ++ l.gathered.items) (g.W.Sink.calls l.fn.writer) (g.W.Sink.calls l.writer)

abbrev pub decreases-loop-line : goal.decreases-loop-line
decreases-loop-line g l = length l.rest
