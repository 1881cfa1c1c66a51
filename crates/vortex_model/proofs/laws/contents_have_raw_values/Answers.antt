use Rattle.vortex_model.specs.LogicalType.{stored}
use Rattle.vortex_model.proofs.Readings.{Reading, reading}
use Rattle.vortex_model.proofs.laws.contents_have_raw_values.Goals as goal

pub returns : goal.returns
returns c = λ k x h. let g : Reading (stored k) x = reading (stored k) x h in (g.value, g.valid, g.says)
