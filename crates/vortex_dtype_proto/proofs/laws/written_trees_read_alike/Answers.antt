use Rattle.std.proofs.Common.{refl}
use Rattle.vortex_dtype_proto.specs.Sessions.{no_plugins}
use Rattle.vortex_dtype_proto.proofs.Again.{read_again}
use Rattle.vortex_dtype_proto.proofs.laws.written_trees_read_alike.Goals as goal

pub returns : goal.returns
returns c = read_again no_plugins (λ id. refl)
