use Rattle.std.proofs.Common.{ap, sym, ◌∙◌}
use Rattle.vortex_model.specs.Valid.{are_bytes}
use Rattle.vortex_scalar_builders.proofs.Made.{bytes_valid}
use Rattle.vortex_scalar_builders.proofs.leaves.binary_value.Goals as goal

pub new_unchecked-requires : goal.new_unchecked-requires
new_unchecked-requires c = bytes_valid c.args.nullability c.args.bytes (ap are_bytes (sym c.as_slice.ensures) ∙ c.tell_bytes.ensures)
