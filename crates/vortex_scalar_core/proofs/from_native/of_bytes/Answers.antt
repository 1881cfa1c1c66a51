use Rattle.std.proofs.Common.{ap, sym, ◌∙◌}
use Rattle.vortex_model.specs.Valid.{are_bytes}
use Rattle.vortex_scalar_core.proofs.Natives.{bytes_valid}
use Rattle.vortex_scalar_core.proofs.from_native.of_bytes.Goals as goal

pub new_unchecked-requires : goal.new_unchecked-requires
new_unchecked-requires c = bytes_valid c.args.nullability c.args.bytes (ap are_bytes (sym c.as_slice.ensures) ∙ c.tell_bytes.ensures)
