use Rattle.std.proofs.Common.{◌∙◌}
use Rattle.vortex_stats_bound.specs.Precision.{precision_of}
use Rattle.vortex_table_chunk.specs.zones.Join.{equal_values}
use Rattle.vortex_table_chunk.proofs.zones.JoinLemmas.{one_value}
use Rattle.vortex_table_chunk.proofs.zones.join.have_one_value.Goals as goal

pub returns : goal.returns
returns c = λ compare.
    one_value c.equal_values.result (precision_of c.args.left.now) (precision_of c.args.right.now) (c.equal_values.ensures ∙ (λ i. equal_values (c.exact_in.ensures i) (c.exact_in-2.ensures i))) compare
