use Rattle.vortex_scalar_ops.proofs.NativeRows.{one_more}
use Rattle.vortex_scalar_ops.proofs.native_row.with_cell.Goals as goal

pub returns : goal.returns
returns g c = λ ks rs all.
    rw c.in_ok-push.ensures.items (one_more ks rs c.args.cells.items _ _ c.in_ok-cell.cell c.in_ok-cell.ensures.value c.in_ok-cell.ensures.valid all)
