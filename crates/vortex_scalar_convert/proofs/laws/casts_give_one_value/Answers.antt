use Rattle.std.proofs.Common.{sym, ◌∙◌}
use Rattle.vortex_model.specs.LogicalType.{stored}
use Rattle.vortex_scalar_convert.proofs.Told.{told}
use Rattle.vortex_scalar_convert.proofs.laws.casts_give_one_value.Goals as goal

pub returns : goal.returns
returns c = λ s t r u v h g. told (stored t) u v h.1 g.1 (h.2 ∙ sym g.2)
