use Rattle.std.proofs.Common.{◌≡◌, ℕ, List, ◌++◌, length}
use Rattle.vortex_table_io.specs.declared.call.Call.{Call}
use Rattle.vortex_table_io.specs.Streams.{OnlyPassed}
use Rattle.vortex_table_io.proofs.run.write_all.Given as goal

-- what was written and what is left are the whole
pub record Wrote {W : Type 0} (history : W → List ℕ) (calls : W → List Call) (old new : W) (text rest : List ℕ) : Type 0 where
  pub parts : history new ++ rest ≡ history old ++ text
  pub fine : OnlyPassed (calls old) (calls new)

abbrev pub invariant-loop-rest : goal.invariant-loop-rest
invariant-loop-rest g l = Wrote g.W.Sink.history g.W.Sink.calls l.fn.writer l.writer l.text l.rest

abbrev pub decreases-loop-rest : goal.decreases-loop-rest
decreases-loop-rest g l = length l.rest
