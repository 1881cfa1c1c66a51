use Rattle.vortex_dtype_core.specs.View.{type_of}
use Rattle.vortex_stats_laws.proofs.Calls.{if_mixed}
use Rattle.vortex_stats_laws.proofs.merges.merge_rows_in_any_order.Goals as goal

pub returns-clause-honest : goal.returns-clause-honest
returns-clause-honest c = if_mixed (type_of c.args.dtype.now) c.args.left c.args.right.now c.requires.left c.requires.right c.merge_unordered.result c.merge_unordered.ensures.value
