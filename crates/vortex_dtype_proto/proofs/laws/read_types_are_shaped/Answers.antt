use Rattle.vortex_dtype_proto.proofs.Shaped.{read_is_shaped}
use Rattle.vortex_dtype_proto.proofs.laws.read_types_are_shaped.Goals as goal

pub returns : goal.returns
returns c = read_is_shaped
