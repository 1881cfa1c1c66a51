use Rattle.std.proofs.Common.{subst}
use Rattle.vortex_dtype_core.specs.View.{type_of}
use Rattle.vortex_dtype_proto.specs.Messages.{reading}
use Rattle.vortex_dtype_proto.specs.View.{tree_of, Gives}
use Rattle.vortex_dtype_proto.proofs.laws.read_without_plugins.Goals as goal

pub returns : goal.returns
returns c = subst (λ s. Gives type_of c.from_proto.result (reading s (tree_of c.args.message.now))) (λ i id. c.empty-session.ensures id i) c.from_proto.ensures
