use Rattle.std.proofs.Common.{[]}
use Rattle.std.proofs.lemmas.Result.{on_ok_weaker}
use Rattle.vortex_dtype_core.specs.View.{type_of}
use Rattle.vortex_table_core.specs.Arrays.{arrays_of, IsTakenAs, IsTakenBy}
use Rattle.vortex_table_core.proofs.Appended.{adds_wider, taken_as}
use Rattle.vortex_table_core.proofs.table.Table.append_array.Goals as goal

pub returns-clause-layout : goal.returns-clause-layout
returns-clause-layout c =
    let k = type_of c.args.self.now.dtype in
    on_ok_weaker c.append_hinted.result
    (adds_wider (IsTakenBy k [] c.args.array) (IsTakenAs k c.args.array) (arrays_of c.args.self.now) (arrays_of c.append_hinted.new.self) (λ a h. taken_as k c.args.array a h))
    c.append_hinted.ensures.layout
