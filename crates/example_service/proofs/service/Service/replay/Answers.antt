use Rattle.std.proofs.Common.{rules}
use Rattle.example_service.specs.View.{state_in}
use Rattle.example_service.proofs.Replaying.{partway_start, partway_next, partway_refused, partway_state, partway_accepted}
use Rattle.example_service.proofs.service.Service.replay.Goals as goal

pub loop-line-init : goal.loop-line-init
loop-line-init c = partway_start c.args.log.now (state_in c.new-service.result) c.new-service.ensures

pub loop-line-preserved : goal.loop-line-preserved
loop-line-preserved c =
    partway_next c.args.log.now c.loop-line.rest.now c.in-Some.line.now c.in-Some.after.now (state_in c.loop-line.service) c.in-Some.ensures.0 c.in-Some.ensures.1
    c.loop-line.invariant (state_in c.take_in.new.self) c.in_ok-take_in.ensures.run c.in_ok-take_in.ensures.accepted

pub returns-in_err-take_in-clause-refused : goal.returns-in_err-take_in-clause-refused
returns-in_err-take_in-clause-refused c = λ e.
    partway_refused c.args.log.now c.loop-line.rest.now c.in-Some.line.now c.in-Some.after.now (state_in c.loop-line.service) c.in-Some.ensures.0 c.in-Some.ensures.1
    c.loop-line.invariant (c.in_err-take_in.ensures.refused (search rules))

pub returns-clause-same : goal.returns-clause-same
returns-clause-same c =
    partway_state c.args.log.now c.loop-line.rest.now (state_in c.loop-line.service) c.in_default.ensures c.loop-line.invariant

pub returns-clause-accepted : goal.returns-clause-accepted
returns-clause-accepted c =
    partway_accepted c.args.log.now c.loop-line.rest.now (state_in c.loop-line.service) c.in_default.ensures c.loop-line.invariant
