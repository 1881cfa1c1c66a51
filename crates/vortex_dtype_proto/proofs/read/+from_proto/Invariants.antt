use Rattle.vortex_dtype_proto.specs.Sessions.{session_of}
use Rattle.vortex_dtype_proto.proofs.Readings.{IsLeft}
use Rattle.vortex_dtype_proto.specs.contracts.read.from_proto as contract
use Rattle.vortex_dtype_proto.proofs.read.+from_proto.Given as goal

abbrev pub invariant-loop-child : goal.invariant-loop-child
invariant-loop-child g l =
    IsLeft (session_of (λ b. ((contract.dyn-1-ghosts g.dyn-1).0.entry b.vtable).1.name b.value) (λ b. ((contract.dyn-1-ghosts g.dyn-1).0.entry b.vtable).1.meaning b.value) l.session.plugins.items) l.child-items l.child-index
    l.children.items
