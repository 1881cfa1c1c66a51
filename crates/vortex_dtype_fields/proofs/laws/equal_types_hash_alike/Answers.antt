use Rattle.vortex_dtype_fields.proofs.Lawful.{hash_alike}
use Rattle.vortex_dtype_fields.proofs.laws.equal_types_hash_alike.Goals as goal

pub returns : goal.returns
returns c = hash_alike
