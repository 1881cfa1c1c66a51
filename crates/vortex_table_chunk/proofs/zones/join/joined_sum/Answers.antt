use Rattle.vortex_dtype_ptype.specs.View.{number_kind_of}
use Rattle.vortex_table_chunk.proofs.zones.JoinLemmas.{sums_made, kind_made}
use Rattle.vortex_table_chunk.proofs.zones.join.joined_sum.Goals as goal

pub returns-clause-number : goal.returns-clause-number
returns-clause-number c = sums_made c.args.left c.args.right c.sum_of_kind.result c.in_ok-left.left c.in_ok-right.right (number_kind_of c.ptype.result) c.in_ok-left.was c.in_ok-right.was c.ptype.ensures c.sum_of_kind.ensures.number

pub returns-clause-kind : goal.returns-clause-kind
returns-clause-kind c = kind_made c.args.left c.args.right c.sum_of_kind.result c.in_ok-left.left c.in_ok-right.right (number_kind_of c.ptype.result) c.in_ok-left.was c.in_ok-right.was c.ptype.ensures c.sum_of_kind.ensures.kind
