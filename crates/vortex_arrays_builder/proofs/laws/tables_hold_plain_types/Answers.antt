use Rattle.vortex_arrays_builder.proofs.TypeLemmas.{held_plain}
use Rattle.vortex_arrays_builder.proofs.laws.tables_hold_plain_types.Goals as goal

pub returns : goal.returns
returns c = held_plain
