use Rattle.vortex_dtype_core.specs.View.{type_of}
use Rattle.vortex_stats_bind.proofs.bind.+bind.Goals as goal

pub bind_boxed-returns-in-Literal-clause-bound : goal.bind_boxed-returns-in-Literal-clause-bound
bind_boxed-returns-in-Literal-clause-bound t c = rw (← c.e.view_is, c.in-Literal.is) (c.bind_literal.ensures.bound (type_of c.args.dtype.now))

pub bind_boxed-returns-in-RowCount-clause-bound : goal.bind_boxed-returns-in-RowCount-clause-bound
bind_boxed-returns-in-RowCount-clause-bound t c = rw (← c.e.view_is, c.in-RowCount.is) (c.row_count.ensures (type_of c.args.dtype.now))
