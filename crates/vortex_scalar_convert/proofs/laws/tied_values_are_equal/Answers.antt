use Rattle.vortex_model.specs.LogicalType.{equal_ignoring_nullability}
use Rattle.vortex_scalar_ops.proofs.Compared.{plain_values}
use Rattle.vortex_scalar_ops.proofs.Ordered.{tied_same}
use Rattle.vortex_scalar_convert.proofs.Compared.{tied_where}
use Rattle.vortex_scalar_convert.proofs.laws.tied_values_are_equal.Goals as goal

pub returns : goal.returns
returns c = λ k l x y plain held. tied_where (equal_ignoring_nullability k l) x y (tied_same x y (plain_values k x plain held))
