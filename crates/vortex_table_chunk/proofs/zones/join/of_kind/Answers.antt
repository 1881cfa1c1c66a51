use Rattle.vortex_dtype_ptype.specs.View.{number_kind_of}
use Rattle.vortex_table_chunk.proofs.zones.TypeLemmas.{number_sum}
use Rattle.vortex_table_chunk.proofs.zones.join.of_kind.Goals as goal

pub returns-clause-kind : goal.returns-clause-kind
returns-clause-kind c = number_sum c.of.result (number_kind_of c.args.ptype) c.of.ensures.kind
