use Rattle.std.proofs.Common.{ap, sym, ◌∙◌}
use Rattle.vortex_model.specs.LogicalType.{binary, non_nullable}
use Rattle.vortex_model.specs.Valid.{valid, are_bytes}
use Rattle.vortex_scalar_value.proofs.Views.{raw_of-Binary}
use Rattle.vortex_scalar_ops.proofs.native_value.bytes_value.Goals as goal

pub returns-clause-valid : goal.returns-clause-valid
returns-clause-valid c = ap (λ r. valid (binary non_nullable) r) (raw_of-Binary c.args.bytes) ∙ ap are_bytes (sym c.as_slice.ensures) ∙ c.tell_bytes.ensures
