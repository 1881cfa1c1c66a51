use Rattle.std.proofs.Common.{length}
use Rattle.example_service.specs.View.{state_in}
use Rattle.example_service.proofs.Replaying.{IsPartway}
use Rattle.example_service.proofs.service.Service.replay.Given as goal

abbrev pub invariant-loop-line : goal.invariant-loop-line
invariant-loop-line l = IsPartway l.log l.rest (state_in l.service)

abbrev pub decreases-loop-line : goal.decreases-loop-line
decreases-loop-line l = length l.rest
