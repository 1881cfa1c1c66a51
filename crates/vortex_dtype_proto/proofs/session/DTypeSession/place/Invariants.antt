use Rattle.std.proofs.Common.{◌≡◌, drop}
use Rattle.vortex_dtype_proto.specs.Sessions.{place_of}
use Rattle.vortex_dtype_proto.proofs.Plugins.{place_from}
use Rattle.vortex_dtype_proto.proofs.session.DTypeSession.place.Given as goal

abbrev pub invariant-loop-place : goal.invariant-loop-place
invariant-loop-place g l =
    place_from (λ b. (goal.ExtDTypePlugin-dyn g (b.vtable, b.value)).name b.value) l.place (drop l.place l.self.plugins.items) l.id
    ≡ place_of (λ b. (goal.ExtDTypePlugin-dyn g (b.vtable, b.value)).name b.value) l.self.plugins.items l.id
