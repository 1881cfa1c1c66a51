use Rattle.std.proofs.Common.{false}
use Rattle.vortex_model.specs.LogicalType.{nullable}
use Rattle.vortex_scalar_value.specs.View.{raw_at}
use Rattle.vortex_arrays_builder.specs.Plain.{is_there}
use Rattle.vortex_arrays_builder.proofs.LeafLemmas.{said_at}
use Rattle.vortex_arrays_builder.proofs.leaves.is_present_at.Goals as goal

pub returns : goal.returns
returns c = said_at (is_there nullable) raw_at c.args.values.now c.args.i c.index-values-i.result false c.is_present.result c.requires c.index-values-i.is c.is_present.ensures
