use Rattle.std.proofs.Common.{subst, sym}
use Rattle.vortex_model_table.specs.Bounds.{AnyBytes, IsLongestBeginning}
use Rattle.vortex_model_laws.proofs.Beginnings.{take_longest}
use Rattle.vortex_scalar_builders.proofs.byte_bounds.lower_bytes.Goals as goal

pub returns-clause-bound : goal.returns-clause-bound
returns-clause-bound c =
    subst (λ p. IsLongestBeginning AnyBytes c.args.value c.args.max_length p) (sym c.truncate.ensures) (take_longest c.args.value c.args.max_length)
