use Rattle.std.proofs.Common.{◌≡◌, ◌≤◌, ℕ, List, [], ◌++◌, length}
use Rattle.vortex_model_table.specs.Reply.{Answers}
use Rattle.vortex_table_io.specs.Replies.{FeedOk}
use Rattle.vortex_table_io.specs.declared.call.Call.{Call}
use Rattle.vortex_table_io.specs.Streams.{OnlyPassed}
use Rattle.vortex_table_io.proofs.run.run_lines.Given as goal

-- the input so far was answered, and each step read at least a byte of it
pub record Ran {S R W F : Type 0} (answers : Answers S (List ℕ)) (read : R → List ℕ) (reader_calls : R → List Call) (fixed : R → F) (written : W → List ℕ) (writer_calls : W → List Call) (old : S) (reader_old : R) (writer_old : W) (left : List ℕ) (turns : ℕ) (new : S) (reader_new : R) (writer_new : W) : Type 0 where
  pub input : List ℕ
  pub so_far : read reader_new ≡ read reader_old ++ input
  pub goes : FeedOk answers old [] input left (written writer_old) (written writer_new) new
  pub long : turns ≤ length input
  pub reads : OnlyPassed (reader_calls reader_old) (reader_calls reader_new)
  pub same : fixed reader_new ≡ fixed reader_old
  pub writes : OnlyPassed (writer_calls writer_old) (writer_calls writer_new)

abbrev pub invariant-loop : goal.invariant-loop
invariant-loop g l = Ran g.M.LineHandler.answers g.R.Source.history g.R.Source.calls g.R.Source.fixed g.W.Sink.history g.W.Sink.calls (g.M.LineHandler.view l.fn.handler) l.fn.reader l.fn.writer l.buffer.line.bytes l.counter (g.M.LineHandler.view l.handler) l.reader l.writer
