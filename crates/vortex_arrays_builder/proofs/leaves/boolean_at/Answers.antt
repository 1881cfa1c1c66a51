use Rattle.std.proofs.Common.{false}
use Rattle.vortex_scalar_value.specs.View.{raw_at}
use Rattle.vortex_arrays_builder.specs.Plain.{boolean_or_false}
use Rattle.vortex_arrays_builder.proofs.LeafLemmas.{said_at}
use Rattle.vortex_arrays_builder.proofs.leaves.boolean_at.Goals as goal

pub returns : goal.returns
returns c = said_at boolean_or_false raw_at c.args.values.now c.args.i c.index-values-i.result false c.boolean_or_false.result c.requires c.index-values-i.is c.boolean_or_false.ensures
