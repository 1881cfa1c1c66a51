use Rattle.std.proofs.Common.{◌≡◌, drop}
use Rattle.vortex_dtype_proto.specs.Sessions.{session_of}
use Rattle.vortex_dtype_proto.proofs.session.DTypeSession.find.Given as goal

abbrev pub invariant-loop-plugin : goal.invariant-loop-plugin
invariant-loop-plugin g l =
    session_of (λ b. (goal.ExtDTypePlugin-dyn g (b.vtable, b.value)).name b.value) (λ b. (goal.ExtDTypePlugin-dyn g (b.vtable, b.value)).meaning b.value) (drop l.plugin-index l.plugin-items) l.id
    ≡ session_of (λ b. (goal.ExtDTypePlugin-dyn g (b.vtable, b.value)).name b.value) (λ b. (goal.ExtDTypePlugin-dyn g (b.vtable, b.value)).meaning b.value) l.plugin-items l.id
