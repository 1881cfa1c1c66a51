use Rattle.vortex_dtype_core.specs.View.{type_of}
use Rattle.vortex_table_schema.specs.Cut.{paths_of}
use Rattle.vortex_table_core.proofs.Found.{can_be_cut}
use Rattle.vortex_table_core.proofs.table.Table.run_prepared.Goals as goal

pub read_answer-requires : goal.read_answer-requires
read_answer-requires c =
    can_be_cut (type_of c.args.self.now.dtype) (paths_of c.args.paths.now) c.args.predicate.now c.args.prepared.now c.requires c.in_ok-found.found.selections.items c.in_ok-found.ensures.typed
