use Rattle.std.proofs.Common.{sym, ◌∙◌}
use Rattle.vortex_arrays_concat.proofs.plain_parts.is_of_type.Goals as goal

pub returns : goal.returns
returns c = (
  λ t. sym c.dtype.ensures ∙ c.eq.ensures.equal.0 t,
  λ e. c.eq.ensures.equal.1 (c.dtype.ensures ∙ e),
)
