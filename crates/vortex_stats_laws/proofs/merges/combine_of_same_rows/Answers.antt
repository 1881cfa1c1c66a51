use Rattle.std.proofs.Common.{rules}
use Rattle.vortex_dtype_core.specs.View.{type_of}
use Rattle.vortex_stats_laws.proofs.Calls.{if_combined}
use Rattle.vortex_stats_laws.proofs.merges.combine_of_same_rows.Goals as goal

pub returns-clause-honest : goal.returns-clause-honest
returns-clause-honest c = if_combined (type_of c.args.dtype.now) c.args.left.now c.args.right.now c.requires.left c.requires.right c.combine_sets.new.self c.combine_sets.result c.iter-distinct.ensures.distinct c.combine_sets.ensures.ok c.combine_sets.ensures.no_overlap c.combine_sets.ensures.refused
